use Rattle.std.proofs.Common.{◌≡◌, ℕ, ◌<◌, Bool, true, false, List, length, ap, arith}
use Rattle.std.specs.Prelude.{IsTrue, ◌↔◌}
use Rattle.std.proofs.lemmas.List.{length-drop}
use Rattle.tex_defs.specs.declared.Token.{Token}
use Rattle.input_state.specs.HeldLists.{HeldLists}
use Rattle.input_state.proofs.Words.{gathered_length}
use Rattle.input_state.proofs.lists_held.Held.close.Goals as goal

some_if : (b : Bool) (n : ℕ) → (IsTrue b ↔ (0 < n)) → b ≡ true → 0 < n
some_if b n tells is = grind (arith, tells, is)

none_gathered : (b : Bool) (n : ℕ) → (IsTrue b ↔ (0 < n)) → b ≡ false → n ≡ 0
none_gathered b n tells is = grind (arith, tells, is)

pub drop_list-requires : goal.drop_list-requires
drop_list-requires c none =
    let some : 0 < length c.loop-held.held.builds = some_if _ (length c.loop-held.held.builds) c.is_gathering.ensures c.loop-held-test.true in
    omega (arith, some, ap (λ (bs : List (List Token)). length bs) none)

pub loop-held-smaller : goal.loop-held-smaller
loop-held-smaller c =
    let some : 0 < length c.loop-held.held.builds = some_if _ (length c.loop-held.held.builds) c.is_gathering.ensures c.loop-held-test.true in
    omega (arith, some, ap (λ (v : HeldLists). length v.builds) c.drop_list.ensures.after, length-drop 1 c.loop-held.held.builds)

pub destroy_empty-requires : goal.destroy_empty-requires
destroy_empty-requires c =
    let i = c.held.inside in
    let seen = ap (λ (v : HeldLists). length v.builds) c.held.view_is in
    let same = ap (λ (v : HeldLists). length v.builds) c.drop_made.ensures.after in
    let none : length c.loop-held.held.builds ≡ 0 = none_gathered _ (length c.loop-held.held.builds) c.is_gathering.ensures c.loop-held-test.false in
    omega (arith, gathered_length i.lists i.builds.items, seen, same, none, i.builds.ok)
