-- The first option of words.
use Rattle.std.proofs.Common.{◌≡◌, ℕ, ◌-◌, ◌≤◌, List, [], ◌∷◌, length, get_or, take, drop, map, Bor, Option, Some, None, String, string_bytes, refl, ap, ◌∙◌, sym, arith}
use Rattle.std.proofs.lemmas.List.{take_all}
use Rattle.std.specs.Option.{option_and_then, option_copied}
use Rattle.spl_words.specs.declared.options.Given.{Given}
use Rattle.spl_words.specs.declared.options.Verb.{Verb}
use Rattle.spl_words.specs.Words.{chosen, name_in, options_of, value_in, with_option}

and_some : (given : Option Given) → option_and_then (λ (g : Given). Some g) given ≡ given
and_some None = refl
and_some (Some given) = refl

-- it has its value in its own word
pub joined : (verb : Verb) (word value : List ℕ) (words : List (List ℕ)) (given : Given) → value_in word ≡ Some value →
    options_of verb (word ∷ words) given ≡ option_and_then (options_of verb words) (with_option verb (name_in word) value given)
joined verb word value [] given is = ap (λ o. option_and_then (λ v. with_option verb (name_in word) v given) o) is ∙ sym (and_some (with_option verb (name_in word) value given))
joined verb word value (next ∷ words) given is =
    ap (λ o. chosen o (λ v. option_and_then (options_of verb (next ∷ words)) (with_option verb (name_in word) v given)) (option_and_then (options_of verb words) (with_option verb (name_in word) next given))) is

-- it has its value in the next word
pub apart : (verb : Verb) (word next : List ℕ) (words : List (List ℕ)) (given : Given) → value_in word ≡ None →
    options_of verb (word ∷ next ∷ words) given ≡ option_and_then (options_of verb words) (with_option verb (name_in word) next given)
apart verb word next words given is =
    ap (λ o. chosen o (λ v. option_and_then (options_of verb (next ∷ words)) (with_option verb (name_in word) v given)) (option_and_then (options_of verb words) (with_option verb (name_in word) next given))) is

-- the words behind the first one
pub first_and_rest : {X : Type 0} (words : List X) (word : X) → 1 ≤ length words → word ≡ get_or words 0 word → words ≡ word ∷ take (length words - 1) (drop 1 words)
first_and_rest [] word some is = absurd (omega arith)
first_and_rest (x ∷ xs) word some is =
    let rest : take (length (x ∷ xs) - 1) xs ≡ xs = take_all _ xs (omega arith) in
    let first : word ≡ x = is in
    λ i. (sym first i) ∷ (sym rest i)

pub first_joined : (verb : Verb) (given : Given) (word bytes name : List ℕ) (behind : Option (Bor (List ℕ))) (value : Bor (List ℕ)) (words : List (List ℕ)) →
    bytes ≡ word → name ≡ name_in bytes → option_copied behind ≡ value_in bytes → behind ≡ Some value →
    options_of verb (word ∷ words) given ≡ option_and_then (options_of verb words) (with_option verb name value.now given)
first_joined verb given word bytes name behind value words same names values is =
    let there : value_in word ≡ Some value.now = ap value_in (sym same) ∙ sym values ∙ ap option_copied is in
    joined verb word value.now words given there
    ∙ ap (λ n. option_and_then (options_of verb words) (with_option verb n value.now given)) (ap name_in (sym same) ∙ sym names)

pub first_apart : {A : Type 0} (verb : Verb) (given : Given) (word bytes name text : List ℕ) (behind : Option (Bor (List ℕ))) (words : List (String A)) (next : String A) →
    bytes ≡ word → name ≡ name_in bytes → option_copied behind ≡ value_in bytes → behind ≡ None → 1 ≤ length words → next ≡ get_or words 0 next → text ≡ string_bytes next →
    options_of verb (word ∷ map string_bytes words) given ≡ option_and_then (options_of verb (map string_bytes (take (length words - 1) (drop 1 words)))) (with_option verb name text given)
first_apart {A} verb given word bytes name text behind words next same names values is some at spelled =
    let rest = take (length words - 1) (drop 1 words) in
    let absent : value_in word ≡ None = ap value_in (sym same) ∙ sym values ∙ ap option_copied is in
    let parted : words ≡ next ∷ rest = first_and_rest words next some at in
    ap (λ ws. options_of verb (word ∷ map string_bytes ws) given) parted
    ∙ apart verb word (string_bytes next) (map string_bytes rest) given absent
    ∙ ap (λ n. option_and_then (options_of verb (map string_bytes rest)) (with_option verb n (string_bytes next) given)) (ap name_in (sym same) ∙ sym names)
    ∙ ap (λ t. option_and_then (options_of verb (map string_bytes rest)) (with_option verb name t given)) (sym spelled)

-- the words that are left give what the words behind the first option give with it
pub goes_on : {A : Type 0} (verb : Verb) (given more : Given) (all : Option Given) (left : List (String A)) (word : String A) (name value : List ℕ) (behind : List (List ℕ)) →
    all ≡ options_of verb (map string_bytes left) given → 1 ≤ length left → word ≡ get_or left 0 word →
    options_of verb (string_bytes word ∷ map string_bytes (take (length left - 1) (drop 1 left))) given ≡ option_and_then (options_of verb behind) (with_option verb name value given) →
    with_option verb name value given ≡ Some more → all ≡ options_of verb behind more
goes_on verb given more all left word name value behind whole some at first is =
    whole ∙ ap (λ ws. options_of verb (map string_bytes ws) given) (first_and_rest left word some at) ∙ first ∙ ap (option_and_then (options_of verb behind)) is

-- or they give nothing
pub gives_up : {A : Type 0} (verb : Verb) (given : Given) (all : Option Given) (left : List (String A)) (word : String A) →
    all ≡ options_of verb (map string_bytes left) given → 1 ≤ length left → word ≡ get_or left 0 word →
    options_of verb (string_bytes word ∷ map string_bytes (take (length left - 1) (drop 1 left))) given ≡ None → all ≡ None
gives_up verb given all left word whole some at none =
    whole ∙ ap (λ ws. options_of verb (map string_bytes ws) given) (first_and_rest left word some at) ∙ none

pub gives_up_at : {A : Type 0} (verb : Verb) (given : Given) (all : Option Given) (left : List (String A)) (word : String A) (name value : List ℕ) (behind : List (List ℕ)) →
    all ≡ options_of verb (map string_bytes left) given → 1 ≤ length left → word ≡ get_or left 0 word →
    options_of verb (string_bytes word ∷ map string_bytes (take (length left - 1) (drop 1 left))) given ≡ option_and_then (options_of verb behind) (with_option verb name value given) →
    with_option verb name value given ≡ None → all ≡ None
gives_up_at verb given all left word name value behind whole some at first none =
    whole ∙ ap (λ ws. options_of verb (map string_bytes ws) given) (first_and_rest left word some at) ∙ first ∙ ap (option_and_then (options_of verb behind)) none
