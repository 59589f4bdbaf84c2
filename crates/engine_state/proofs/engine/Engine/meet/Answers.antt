use Rattle.std.proofs.Common.{◌≡◌, true, false, arith}
use Rattle.std.proofs.lemmas.Grind.{common_steps}
use Rattle.std.specs.Prelude.{Option, Some}
use Rattle.tex_syntax.specs.declared.words.Want.{Want}
use Rattle.engine_state.specs.CutReadings.{CutsIn}
use Rattle.engine_state.specs.Stands.{state_of, page_of}
use Rattle.engine_state.specs.Rules.{world_of, onward_of, scanning_of, space_moves, token_moves, Takes, Meets}
use Rattle.engine_state.proofs.Coming.{meets_by}
use Rattle.engine_state.proofs.Joining.{ok_to, err_to}
use Rattle.engine_state.proofs.CuttingReadings.{in_by}
use Rattle.engine_state.proofs.CheckingMoves.{by_some, comes_here, inner_meets, none_meets, seen_outer, meets_found}
use Rattle.engine_state.proofs.engine.Engine.meet.Goals as goal

pub returns-then-not-is_outer-clause-rule : goal.returns-then-not-is_outer-clause-rule
returns-then-not-is_outer-clause-rule g c = let e = c.args.self.now in
    let no : c.is_outer.result ≡ false = grind (arith, common_steps, c.if-not-is_outer.true) in
    λ sizes f book want t. comes_here sizes want e book _ _ c.args.token c.met-seen.result c.met-seen.ensures t
    (inner_meets (page_of e book) (scanning_of e book.work) (onward_of (page_of e book) want book.work) _ (seen_outer e book c.args.token c.met-seen.result c.is_outer.result false c.met-seen.ensures c.is_outer.ensures no))

pub returns-in-Some-clause-rule : goal.returns-in-Some-clause-rule
returns-in-Some-clause-rule g c = let e = c.args.self.now in let n = c.forbid in let i = c.in-Some in
    let outer : c.is_outer.result ≡ true = grind (arith, common_steps, c.if-not-is_outer.false) in
    ok_to n.result (λ met h sizes f book want t. let scans = i.ensures.some sizes book want t in
    by_some (λ (w : Option Want). Takes sizes w e book → Meets sizes w (state_of e book) n.new.self book (world_of f (g.S.Sink.told c.args.out.now) e) (world_of f (g.S.Sink.told n.new.out) n.new.self) (token_moves (page_of e book) (scanning_of e book.work) (onward_of (page_of e book) w book.work) c.args.token) met)
    want scans.1 (λ w t. meets_by sizes (Some w) (state_of e book) n.new.self book _ _ _ _ met
    (meets_found e book i.found w c.args.token (seen_outer e book c.args.token c.met-seen.result c.is_outer.result true c.met-seen.ensures c.is_outer.ensures outer) scans.0) (h sizes f book w t)) t) n.ensures.rule

pub returns-in-Some-clause-err : goal.returns-in-Some-clause-err
returns-in-Some-clause-err g c = let e = c.args.self.now in let n = c.forbid in let i = c.in-Some in
    let outer : c.is_outer.result ≡ true = grind (arith, common_steps, c.if-not-is_outer.false) in
    err_to n.result (λ b h sizes f book want t. let scans = i.ensures.some sizes book want t in
    by_some (λ (w : Option Want). Takes sizes w e book → CutsIn sizes (state_of e book) n.new.self (world_of f (g.S.Sink.told c.args.out.now) e) (world_of f (g.S.Sink.told n.new.out) n.new.self) (token_moves (page_of e book) (scanning_of e book.work) (onward_of (page_of e book) w book.work) c.args.token) b)
    want scans.1 (λ w t. in_by sizes (state_of e book) n.new.self _ _ _ _ b
    (meets_found e book i.found w c.args.token (seen_outer e book c.args.token c.met-seen.result c.is_outer.result true c.met-seen.ensures c.is_outer.ensures outer) scans.0) (h sizes f book (space_moves (page_of e book) (Some w) book.work) t.1)) t) n.ensures.err

pub returns-in-None-clause-rule : goal.returns-in-None-clause-rule
returns-in-None-clause-rule g c = let e = c.args.self.now in
    λ sizes f book want t. comes_here sizes want e book _ _ c.args.token c.met-seen.result c.met-seen.ensures t
    (none_meets (page_of e book) (scanning_of e book.work) (onward_of (page_of e book) want book.work) c.args.token (c.scanned.ensures.none c.in-None.is sizes book want t))
