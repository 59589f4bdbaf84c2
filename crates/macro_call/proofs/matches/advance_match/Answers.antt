use Rattle.std.proofs.Common.{◌≡◌, ◌++◌, ◌∷◌, [], length, take, sym, ap, ◌∙◌, arith, length-drop}
use Rattle.token_lists.specs.Ids.{id_of}
use Rattle.plain_tokens.specs.Arguments.{is_prefix, same}
use Rattle.macro_call.specs.Cursors.{delimiter_at}
use Rattle.macro_call.proofs.Cursors.{delimiter_ahead}
use Rattle.macro_call.proofs.Fronts.{first_fails, past_none, past_stops, here, not_inside, not_fitting, prefix_next}
use Rattle.macro_call.proofs.matches.advance_match.Goals as goal
use Rattle.macro_call.proofs.matches.advance_match.Goals.{After-delimiting-wanted, else-depth-eq0-via-then-depth-eq0+else-same, else-depth-eq0-via-else-depth-eq0}

pub delimiting-wanted-requires-clause-some : goal.delimiting-wanted-requires-clause-some
delimiting-wanted-requires-clause-some c =
    omega (
      arith,
      ap length (delimiter_ahead c.args.lists.now (id_of c.args.list.now) c.args.delimiter c.args.matched c.args.next c.requires.next (omega (arith, c.requires.inside))),
      length-drop c.args.matched (delimiter_at c.args.lists.now (id_of c.args.list.now) c.args.delimiter),
      c.requires.inside,
    )

-- the match goes on exactly where x is the next token
fits : (c : After-delimiting-wanted) → is_prefix (take c.args.matched (delimiter_at c.args.lists.now (id_of c.args.list.now) c.args.delimiter) ++ c.args.x ∷ []) (delimiter_at c.args.lists.now (id_of c.args.list.now) c.args.delimiter) ≡ same c.args.x c.delimiting-wanted.result.0
fits c =
    prefix_next c.args.matched (delimiter_at c.args.lists.now (id_of c.args.list.now) c.args.delimiter) (delimiter_at c.args.lists.now (id_of c.args.list.now) c.delimiting-wanted.result.1) c.delimiting-wanted.result.0 c.args.x
    (sym (delimiter_ahead c.args.lists.now (id_of c.args.list.now) c.args.delimiter c.args.matched c.args.next c.requires.next (omega (arith, c.requires.inside))) ∙ c.delimiting-wanted.ensures.0)

pub returns-then-same-clause-part : goal.returns-then-same-clause-part
returns-then-same-clause-part c =
    (past_stops _ _ _ 0 _ _ (past_none _ _ c.args.depth) (here c.args.depth _ c.if-depth-eq0.true (fits (goal.at.returns-then-same-clause-part c).After-delimiting-wanted ∙ sym c.same.ensures ∙ c.if-same.true))).0

pub returns-then-same-clause-rest : goal.returns-then-same-clause-rest
returns-then-same-clause-rest c =
    (past_stops _ _ _ 0 _ _ (past_none _ _ c.args.depth) (here c.args.depth _ c.if-depth-eq0.true (fits (goal.at.returns-then-same-clause-rest c).After-delimiting-wanted ∙ sym c.same.ensures ∙ c.if-same.true))).1

pub begin_again-requires-clause-fails : goal.begin_again-requires-clause-fails
begin_again-requires-clause-fails c = elim c.else-depth-eq0.branch [
  | else-depth-eq0-via-then-depth-eq0+else-same w ↦ not_fitting c.args.depth _ (fits (goal.at.begin_again-requires-clause-fails c).After-delimiting-wanted ∙ sym w.same.ensures ∙ w.if-same.false)
  | else-depth-eq0-via-else-depth-eq0 w ↦ not_inside c.args.depth _ w.if-depth-eq0.false
]

pub returns-then-matched-eq0-clause-part : goal.returns-then-matched-eq0-clause-part
returns-then-matched-eq0-clause-part c = elim c.else-depth-eq0.branch [
  | else-depth-eq0-via-then-depth-eq0+else-same w ↦ (first_fails _ c.args.matched c.args.depth c.args.x c.if-matched-eq0.true (not_fitting c.args.depth _ (fits (goal.at.returns-then-matched-eq0-clause-part c).After-delimiting-wanted ∙ sym w.same.ensures ∙ w.if-same.false))).0
  | else-depth-eq0-via-else-depth-eq0 w ↦ (first_fails _ c.args.matched c.args.depth c.args.x c.if-matched-eq0.true (not_inside c.args.depth _ w.if-depth-eq0.false)).0
]

pub returns-then-matched-eq0-clause-rest : goal.returns-then-matched-eq0-clause-rest
returns-then-matched-eq0-clause-rest c = elim c.else-depth-eq0.branch [
  | else-depth-eq0-via-then-depth-eq0+else-same w ↦ (first_fails _ c.args.matched c.args.depth c.args.x c.if-matched-eq0.true (not_fitting c.args.depth _ (fits (goal.at.returns-then-matched-eq0-clause-rest c).After-delimiting-wanted ∙ sym w.same.ensures ∙ w.if-same.false))).1
  | else-depth-eq0-via-else-depth-eq0 w ↦ (first_fails _ c.args.matched c.args.depth c.args.x c.if-matched-eq0.true (not_inside c.args.depth _ w.if-depth-eq0.false)).1
]
