use Rattle.std.proofs.Common.{◌≡◌, ℕ, ◌+◌, ◌<◌, Bool, true, false, List, [], ◌∷◌, ◌++◌, length, take, drop, get_or, sym, ap, ◌∙◌, append_assoc, add-one, arith}
use Rattle.std.specs.Prelude.{◌==◌, if◌then◌else◌}
use Rattle.std.proofs.Math.Seq.{take-suc}
use Rattle.std.proofs.lemmas.Bool.{ne_eqb}
use Rattle.plain_tokens.specs.Lines.{before_feed, behind_feed, has_feed}
use Rattle.input_state.proofs.LineRests.{drop_at}
use Rattle.input_state.proofs.lines.find_feed.Goals as goal

-- the byte of an index is no line feed
module _ (bytes : List ℕ) (k : ℕ) (below : k < length bytes) (other : get_or bytes k 0 ≡ 10 → ⊥) where
  no_feed : (get_or bytes k 0 == 10) ≡ false
  no_feed = ne_eqb (get_or bytes k 0) 10 other

  front_on : take (k + 1) bytes ≡ take k bytes ++ get_or bytes k 0 ∷ []
  front_on = rw add-one (take-suc bytes k 0 below)

  before_on : take k bytes ++ before_feed (drop k bytes) ≡ take (k + 1) bytes ++ before_feed (drop (k + 1) bytes)
  before_on =
      ap (λ (xs : List ℕ). take k bytes ++ before_feed xs) (drop_at bytes k below)
      ∙ ap (λ (b : Bool). take k bytes ++ (if b then [] else get_or bytes k 0 ∷ before_feed (drop (k + 1) bytes))) no_feed
      ∙ sym (append_assoc (take k bytes) (get_or bytes k 0 ∷ []) (before_feed (drop (k + 1) bytes)))
      ∙ ap (λ (xs : List ℕ). xs ++ before_feed (drop (k + 1) bytes)) (sym front_on)

  behind_on : behind_feed (drop k bytes) ≡ behind_feed (drop (k + 1) bytes)
  behind_on = ap behind_feed (drop_at bytes k below) ∙ ap (λ (b : Bool). if b then drop (k + 1) bytes else behind_feed (drop (k + 1) bytes)) no_feed

  found_on : has_feed (drop k bytes) ≡ has_feed (drop (k + 1) bytes)
  found_on = ap has_feed (drop_at bytes k below) ∙ ap (λ (b : Bool). if b then true else has_feed (drop (k + 1) bytes)) no_feed

pub loop-k-preserved : goal.loop-k-preserved
loop-k-preserved c =
    let bytes = c.args.bytes.now in
    let k = c.loop-k.k in
    let i = c.loop-k.invariant in
    let below = c.loop-k-test.true in
    let other = c.if-bytes-k-ne10.true in
    record {
      within = omega arith;
      before = i.before ∙ before_on bytes k below other;
      behind = i.behind ∙ behind_on bytes k below other;
      found = i.found ∙ found_on bytes k below other;
    }
