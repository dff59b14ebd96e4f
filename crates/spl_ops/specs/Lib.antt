pub mod Digits
pub mod Numbers
pub mod Rules
pub mod SumLaws
pub mod Sums
pub mod TextLaws
pub mod Texts
