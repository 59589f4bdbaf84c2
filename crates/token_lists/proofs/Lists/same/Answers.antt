use Rattle.std.proofs.Common.{◌≡◌, ℕ, ◌+◌, List, [], ◌∷◌, ◌++◌, take, Some, sym, ap, ◌∙◌, arith}
use Rattle.std.specs.Prelude.{slice_get}
use Rattle.tex_defs.specs.declared.Token.{Token}
use Rattle.token_lists.specs.Ids.{id_of}
use Rattle.token_lists.specs.Table.{tokens_at}
use Rattle.token_lists.proofs.Copies.{take_more_get}
use Rattle.token_lists.proofs.Lists.same.Goals as goal

-- a token that is the same goes to both
same_more : (ts us : List Token) (i : ℕ) (t : Token) → slice_get ts i ≡ Some t → slice_get us i ≡ Some t → take i ts ≡ take i us → take (i + 1) ts ≡ take (i + 1) us
same_more ts us i t p q same = take_more_get ts i t p ∙ ap (λ (vs : List Token). vs ++ t ∷ []) same ∙ sym (take_more_get us i t q)

pub loop-i-preserved : goal.loop-i-preserved
loop-i-preserved c =
    let table = c.args.self.now in
    let one = id_of c.args.a.now in
    let other = id_of c.args.b.now in
    let i = c.loop-i._i in
    let there = sym c.loop-i.invariant.left ∙ c.in-Some-Some.is-0 in
    let there_too = sym c.loop-i.invariant.right ∙ c.in-Some-Some.is-1 in
    record {
      left = c.next-left.ensures.place one i there;
      left_ends = c.next-left.ensures.ends one i there;
      right = c.next-right.ensures.place other i there_too;
      right_ends = c.next-right.ensures.ends other i there_too;
      same = same_more (tokens_at table one) (tokens_at table other) i c.token.result (c.token.ensures one i there) (c.token-in-Some-Some.ensures other i there_too ∙ ap (λ (t : Token). Some t) (sym c.if-not-is_same.ensures)) c.loop-i.invariant.same;
      within = omega (arith, c.loop-i.invariant.left_ends.0 (cc));
      all = c.loop-i.invariant.all;
    }
