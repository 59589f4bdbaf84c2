-- Texts put behind one another.
use Rattle.std.proofs.Common.{◌≡◌, ◌≤◌, ◌<◌, ◌+◌, ◌++◌, ◌∙◌, ap, append_assoc, ℕ, List, [], ◌∷◌, length, codes, arith}
use Rattle.std.specs.Fmt.{decimal}
use Rattle.std.proofs.lemmas.Fmt.{length-decimal-le}
use Rattle.std.proofs.lemmas.List.{length-append}
use Rattle.tex_defs.specs.Sizes.{table_name}
use Rattle.tex_defs.specs.declared.Table.{Table}
use Rattle.tex_defs.specs.declared.Table.TheVariants.{PoolSize, NumberOfStrings, HashSize, MainMemorySize, SaveSize, InputStackSize, ParameterStackSize, TextInputLevels, BufferSize, GroupingLevels, ConditionStackSize, ExpansionDepth, DelayedWrites}

-- three pieces, four and five
three : (a b c d x y z : List ℕ) → x ≡ a ++ b → y ≡ x ++ c → z ≡ y ++ d → z ≡ a ++ (b ++ (c ++ d))
three a b c d x y z h i j =
    j ∙ ap (λ (t : List ℕ). t ++ d) (i ∙ ap (λ (t : List ℕ). t ++ c) h)
    ∙ append_assoc (a ++ b) c d ∙ append_assoc a b (c ++ d)

four : (a b c d e x y z w : List ℕ) → x ≡ a ++ b → y ≡ x ++ c → z ≡ y ++ d → w ≡ z ++ e → w ≡ a ++ (b ++ (c ++ (d ++ e)))
four a b c d e x y z w h i j k =
    k ∙ ap (λ (t : List ℕ). t ++ e) (three a b c d x y z h i j)
    ∙ append_assoc a (b ++ (c ++ d)) e ∙ ap (λ (t : List ℕ). a ++ t) (append_assoc b (c ++ d) e ∙ ap (λ (t : List ℕ). b ++ t) (append_assoc c d e))

pub five : (a b c d e f x y z w v : List ℕ) → x ≡ a ++ b → y ≡ x ++ c → z ≡ y ++ d → w ≡ z ++ e → v ≡ w ++ f → v ≡ a ++ (b ++ (c ++ (d ++ (e ++ f))))
five a b c d e f x y z w v h i j k l =
    four a b c d (e ++ f) x y z v h i j (l ∙ ap (λ (t : List ℕ). t ++ f) k ∙ append_assoc z e f)

-- how long the line of a full table is
pub short_name : (t : Table) → length (table_name t) ≤ 20
short_name PoolSize = omega arith
short_name NumberOfStrings = omega arith
short_name HashSize = omega arith
short_name MainMemorySize = omega arith
short_name SaveSize = omega arith
short_name InputStackSize = omega arith
short_name ParameterStackSize = omega arith
short_name TextInputLevels = omega arith
short_name BufferSize = omega arith
short_name GroupingLevels = omega arith
short_name ConditionStackSize = omega arith
short_name ExpansionDepth = omega arith
short_name DelayedWrites = omega arith

pub short_head : (text x y z : List ℕ) (t : Table) → length text ≤ 1 → x ≡ text ++ codes "! TeX capacity exceeded, sorry [" → y ≡ x ++ table_name t → z ≡ y ++ 61 ∷ [] → length z ≤ 54
short_head text x y z t le h i j =
    let a : length x ≡ length text + 32 = ap length h ∙ length-append text (codes "! TeX capacity exceeded, sorry [") in
    let b : length y ≡ length x + length (table_name t) = ap length i ∙ length-append x (table_name t) in
    let c : length z ≡ length y + 1 = ap length j ∙ length-append y (61 ∷ []) in
    omega (arith, short_name t)

pub short_number : (n : ℕ) → n < 18446744073709551616 → length (decimal n) ≤ 20
short_number n h = length-decimal-le 20 n (omega arith) (omega (arith, h)) (omega (arith, h))
