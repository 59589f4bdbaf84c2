use Rattle.std.proofs.Common.{◌≡◌, ℕ, ◌∙◌, ◌+◌, ◌-◌, ◌++◌, ◌∷◌, [], length, take, ap, arith, false, ◌&&◌}
use Rattle.std.specs.Prelude.{◌==◌}
use Rattle.token_lists.specs.Ids.{id_of}
use Rattle.plain_tokens.specs.Arguments.{is_prefix}
use Rattle.macro_call.specs.Cursors.{delimiter_at}
use Rattle.macro_call.proofs.Fronts.{IsPast, past_stops, past_next, take_head, here, not_inside, not_fitting, behind_bound}
use Rattle.macro_call.proofs.matches.begin_again.Goals as goal
use Rattle.macro_call.proofs.matches.begin_again.Goals.{After-behind-groups, Joined-groups-eq0, then-groups-eq0+in_default, else-groups-eq0}

-- behind the token that goes out
past : (c : After-behind-groups) (n : ℕ) → c.args.matched - c.loop-i.i ≡ n + 1 →
    IsPast (delimiter_at c.args.lists.now (id_of c.args.list.now) c.args.delimiter) (take c.args.matched (delimiter_at c.args.lists.now (id_of c.args.list.now) c.args.delimiter) ++ c.args.x ∷ []) c.args.depth (c.loop-i.i + 1) c.behind-groups.result (take n (delimiter_at c.args.lists.now (id_of c.args.list.now) c.delimiting-d.result.1) ++ c.args.x ∷ [])
past c n e = past_next _ _ _ _ _ _ _ _ _ c.behind-groups.ensures c.loop-i.invariant.3 (take_head (c.args.matched - c.loop-i.i) n _ _ _ c.args.x e c.delimiting-d.ensures.0) c.loop-i.invariant.4

pub returns-in-Some-clause-part : goal.returns-in-Some-clause-part
returns-in-Some-clause-part c =
    (past_stops _ _ _ _ _ _ (past (goal.at.returns-in-Some-clause-part c).After-behind-groups (c.args.matched - c.loop-i.i - 1) (omega (arith, c.loop-i-test.true))) (here c.behind-groups.result _ c.if-groups-eq0.true c.in-Some.ensures.0)).0

pub returns-in-Some-clause-rest : goal.returns-in-Some-clause-rest
returns-in-Some-clause-rest c =
    (past_stops _ _ _ _ _ _ (past (goal.at.returns-in-Some-clause-rest c).After-behind-groups (c.args.matched - c.loop-i.i - 1) (omega (arith, c.loop-i-test.true))) (here c.behind-groups.result _ c.if-groups-eq0.true c.in-Some.ensures.0)).1

fails : (c : Joined-groups-eq0) → ((c.behind-groups.result == 0) && is_prefix (take (c.args.matched - (c.loop-i.i + 1)) (delimiter_at c.args.lists.now (id_of c.args.list.now) c.delimiting-d.result.1) ++ c.args.x ∷ []) (delimiter_at c.args.lists.now (id_of c.args.list.now) c.args.delimiter)) ≡ false
fails c = elim c.if-groups-eq0.branch [
  | then-groups-eq0+in_default w ↦
      let same : c.args.matched - (c.loop-i.i + 1) ≡ c.args.matched - c.loop-i.i - 1 = omega arith in
      not_fitting c.behind-groups.result _ (ap (λ (n : ℕ). is_prefix (take n (delimiter_at c.args.lists.now (id_of c.args.list.now) c.delimiting-d.result.1) ++ c.args.x ∷ []) (delimiter_at c.args.lists.now (id_of c.args.list.now) c.args.delimiter)) same ∙ w.in_default.ensures)
  | else-groups-eq0 w ↦ not_inside c.behind-groups.result _ w.if-groups-eq0.false
]

pub loop-i-preserved : goal.loop-i-preserved
loop-i-preserved c = (
  c.delimiting-d.ensures.1,
  omega (arith, ap length c.delimiting-d.ensures.0),
  omega (arith, c.behind-groups.ensures, behind_bound c.loop-i.groups c.delimiting-d.result.0),
  past (goal.at.loop-i-preserved c).After-behind-groups (c.args.matched - (c.loop-i.i + 1)) (omega (arith, c.loop-i-test.true)),
  fails c,
)
