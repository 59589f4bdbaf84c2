use Rattle.std.proofs.Common.{◌≡◌, ℕ, List, [], ◌∷◌, map, refl, ◌∙◌, ap, sym, Some, None, Option, slice_get}
use Rattle.std.proofs.lemmas.Option.{get_or_from_slice_get}
use Rattle.cs_hash.specs.Names.{string_at}
use Rattle.name_table.specs.Strings.{Strings, head_string}
use Rattle.name_table.proofs.NameTable.first_string.Goals as goal

first_is : (kept : List (List ℕ)) (numbers : List ℕ) (number : ℕ) (bytes : List ℕ) → slice_get numbers 0 ≡ Some number → slice_get kept number ≡ Some bytes → bytes ≡ head_string (map (string_at kept) numbers)
first_is kept [] number bytes is at = cc
first_is kept (n ∷ ns) number bytes is at =
    let some : Some n ≡ Some number = is in
    let same : n ≡ number = cc in
    sym (ap (string_at kept) same ∙ get_or_from_slice_get kept number bytes [] at)

none_is : (kept : List (List ℕ)) (numbers : List ℕ) → slice_get numbers 0 ≡ None → [] ≡ head_string (map (string_at kept) numbers)
none_is kept [] is = refl
none_is kept (n ∷ ns) is = let some : Some n ≡ None = is in cc

pub returns-in-Some : goal.returns-in-Some
returns-in-Some c =
    first_is c.self.inside.pool.kept c.self.inside.others.items c.in-Some.number.now c.bytes.result.now (ap (λ (xs : List ℕ). slice_get xs 0) (sym c.deref.ensures.value) ∙ sym c.in-Some.ensures.value) c.bytes.ensures
    ∙ ap (λ (s : Strings). head_string s.others) c.self.view_is

pub returns-in-None : goal.returns-in-None
returns-in-None c =
    none_is c.self.inside.pool.kept c.self.inside.others.items (ap (λ (xs : List ℕ). slice_get xs 0) (sym c.deref.ensures.value) ∙ sym c.in-None.ensures.value)
    ∙ ap (λ (s : Strings). head_string s.others) c.self.view_is
