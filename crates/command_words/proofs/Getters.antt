-- What the getters of `clap` read of a value that passes.
use Rattle.std.proofs.Common.{◌≡◌, ◌∙◌, ◌≤◌, ◌||◌, ℕ, Bool, true, false, List, [], Option, Some, None, Ok, Err, Result, refl, ap, sym, codes, bytes_eq, unwrap_or, option_map, Bor, nat_le, ◌&&◌, le-leb}
use Rattle.std.proofs.lemmas.Slice.Eq.{bytes_eq-Decides}
use Rattle.std.specs.Str.Parse.{ParsesUnsigned, digits_value, without_leading_plus}
use Rattle.clap.specs.Words.{ReadsOne, Row, Text, first_of, first_value, one_text, rows_of}
use Rattle.clap.specs.ValueTests.{is_unsigned_in}
use Rattle.clap.specs.declared.parser.matches.Found.{Found}
use Rattle.clap.specs.declared.builder.value_parser.ValueParser.TheVariants.{Unsigned}
use Rattle.clap.proofs.ValueTestLemmas.{accepts-Accepts}
use Rattle.clap.proofs.WalkLemmas.{first_value-rows, one_text-rows}
use Rattle.command_words.specs.Words.{is_given, option_number, text_of}
use Rattle.command_words.specs.Taken.{HasValue, is_flag_text}

text_number : {E : Type 0} (G : List ℕ → Result ℕ E → Type 0) (low high : ℕ) (t : Text) (r : Option ℕ) → ReadsOne G t r
    → ((u : Text) (x : Result ℕ E) → G u x → ParsesUnsigned 64 10 u x) → is_unsigned_in low high t ≡ true
    → (r ≡ Some (digits_value 10 (without_leading_plus t))) × (low ≤ digits_value 10 (without_leading_plus t)) × (digits_value 10 (without_leading_plus t) ≤ high)
text_number {E} G low high t (Some v) read only passes =
    let in_range = accepts-Accepts false (Unsigned low high) t passes in
    (ap (λ (n : ℕ). Some n) (only t (Ok v) read).1, in_range.2, in_range.3)
text_number {E} G low high t None read only passes =
    let in_range = accepts-Accepts false (Unsigned low high) t passes in
    absurd (only t (Err read.0) read.1 (in_range.0, in_range.1))

text_is : (name : Text) (rows : List Row) (t : Text) → first_of name rows ≡ Some t → text_of name rows ≡ t
text_is name rows t e = ap (λ (o : Option Text). unwrap_or o []) e

-- `get_one` reads the number of an option
pub number_read : {E : Type 0} (G : List ℕ → Result ℕ E → Type 0) (low high : ℕ) (f : Found) (name : Text) (r : Option ℕ) (n : ℕ)
    → ((t : Text) → one_text f name ≡ Some t → ReadsOne G t r) → ((u : Text) (x : Result ℕ E) → G u x → ParsesUnsigned 64 10 u x)
    → HasValue (is_unsigned_in low high) name (rows_of f) → n ≡ unwrap_or r 0
    → (n ≡ option_number name (rows_of f)) × (low ≤ n) × (n ≤ high)
number_read G low high f name r n read only v is =
    let got = text_number G low high v.0 r (read v.0 (one_text-rows f name ∙ v.2)) only v.3 in
    let n_is : n ≡ digits_value 10 (without_leading_plus v.0) = is ∙ ap (λ (o : Option ℕ). unwrap_or o 0) got.0 in
    (n_is ∙ ap (λ (t : Text). digits_value 10 (without_leading_plus t)) (sym (text_is name (rows_of f) v.0 v.1)), rw n_is got.1, rw n_is got.2)

-- `get_flag` says whether a flag is given
pub flag_read : (f : Found) (name : Text) (b : Bool) → (one_text f name ≡ Some (codes "true") → b ≡ true) → (one_text f name ≡ Some (codes "false") → b ≡ false)
    → HasValue is_flag_text name (rows_of f) → b ≡ is_given name (rows_of f)
flag_read f name b when_true when_false v = go (bytes_eq v.0 (codes "true")) refl v.3 ∙ ap (λ (t : Text). bytes_eq t (codes "true")) (sym (text_is name (rows_of f) v.0 v.1))
  where
    go : (x : Bool) → bytes_eq v.0 (codes "true") ≡ x → (x || bytes_eq v.0 (codes "false")) ≡ true → b ≡ bytes_eq v.0 (codes "true")
    go true e passes = when_true (one_text-rows f name ∙ (v.2 ∙ ap (λ (t : Text). Some t) ((bytes_eq-Decides v.0 (codes "true")).0 e))) ∙ sym e
    go false e passes = when_false (one_text-rows f name ∙ (v.2 ∙ ap (λ (t : Text). Some t) ((bytes_eq-Decides v.0 (codes "false")).0 passes))) ∙ sym e

-- `get_str` reads the text of a word
pub text_read : (f : Found) (name : Text) (test : Text → Bool) (r : Option (Bor Text)) (default u : Bor Text) → option_map (λ s. s.now) r ≡ first_value f name
    → HasValue test name (rows_of f) → u ≡ unwrap_or r default → u.now ≡ text_of name (rows_of f)
text_read f name test None default u read v is =
    let none : None ≡ Some v.0 = read ∙ (first_value-rows f name ∙ v.1) in
    cc
text_read f name test (Some x) default u read v is =
    let some : Some x.now ≡ first_of name (rows_of f) = read ∙ first_value-rows f name in
    ap (λ (y : Bor Text). y.now) is ∙ ap (λ (o : Option Text). unwrap_or o []) some

pub in_range : (low high n : ℕ) → low ≤ n → n ≤ high → (nat_le low n && nat_le n high) ≡ true
in_range low high n a b = rw (le-leb low n a) (le-leb n high b)
