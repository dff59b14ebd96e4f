pub mod PoolLemmas
pub mod GrantLemmas
