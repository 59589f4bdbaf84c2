-- A name by its number.
use Rattle.std.proofs.Common.{◌≡◌, ◌≢◌, ℕ, zero, suc, ◌-◌, ◌<◌, List, [], length, map, Some, refl, sym, ap, ◌∙◌, arith}
use Rattle.std.specs.List.{slice_get}
use Rattle.std.proofs.lemmas.Option.{slice_get_within, get_or_from_slice_get}
use Rattle.std.proofs.lemmas.List.{get_or-map}
use Rattle.cs_hash.specs.Names.{string_at}
use Rattle.plain_tokens.specs.Printed.{name_at}

-- the characters of a name are those of its string
pub name_found : (strings : List ℕ) (kept : List (List ℕ)) (number string : ℕ) (bytes : List ℕ)
    → number ≢ 0 → slice_get strings (number - 1) ≡ Some string → slice_get kept string ≡ Some bytes
    → bytes ≡ name_at (map (string_at kept) strings) number
name_found strings kept zero string bytes some found read = absurd (some refl)
name_found strings kept (suc k) string bytes some found read =
    let before : suc k - 1 ≡ k = omega arith in
    let here : slice_get strings k ≡ Some string = ap (slice_get strings) (sym before) ∙ found in
    let within : k < length strings = slice_get_within strings k string here in
    sym (get_or-map (string_at kept) strings k 0 [] within
    ∙ ap (string_at kept) (get_or_from_slice_get strings k string 0 here)
    ∙ get_or_from_slice_get kept string bytes [] read)
