use Rattle.std.proofs.Common.{List, [], ◌∷◌, sym, subst}
use Rattle.tex_defs.specs.declared.Token.{Token}
use Rattle.tex_defs.specs.Places.{Transcript}
use Rattle.plain_state.specs.Reports.{runaway_bytes}
use Rattle.plain_machine.specs.States.{Written}
use Rattle.plain_machine.specs.Does.{Did}
use Rattle.engine_state.specs.Stands.{state_of, own_style}
use Rattle.engine_state.specs.Rules.{world_of, Cuts}
use Rattle.engine_state.proofs.CheckingMoves.{frame_list}
use Rattle.engine_state.proofs.Joining.{on_ok, err_to}
use Rattle.engine_state.proofs.engine.Engine.write_scanned.Goals as goal

pub returns-in-Use-clause-did : goal.returns-in-Use-clause-did
returns-in-Use-clause-did g c = rw c.in-Use.is c.write_argument.ensures.did

pub returns-in-Use-clause-err : goal.returns-in-Use-clause-err
returns-in-Use-clause-err g c = rw c.in-Use.is c.write_argument.ensures.err

pub returns-in_default-clause-did : goal.returns-in_default-clause-did
returns-in_default-clause-did g c = let e = c.args.self.now in let e1 = c.write_runaway.new.self in
    on_ok c.write_runaway.result (λ h sizes f book.
    subst (λ (ts : List Token). Did sizes (state_of e book) (state_of e1 book) (world_of f (g.S.Sink.told c.args.out.now) e) (world_of f (g.S.Sink.told c.write_runaway.new.out) e1) (Written Transcript (runaway_bytes c.args.what (own_style e) e.in_line ts) ∷ []))
    (sym (frame_list c.args.what c.args.number e c.in_default.not-Use)) (h sizes f book)) c.write_runaway.ensures.did

pub returns-in_default-clause-err : goal.returns-in_default-clause-err
returns-in_default-clause-err g c = let e = c.args.self.now in let e1 = c.write_runaway.new.self in
    err_to c.write_runaway.result (λ b h sizes f book more.
    subst (λ (ts : List Token). Cuts sizes (state_of e book) e1 book (world_of f (g.S.Sink.told c.args.out.now) e) (world_of f (g.S.Sink.told c.write_runaway.new.out) e1) (Written Transcript (runaway_bytes c.args.what (own_style e) e.in_line ts) ∷ more) b)
    (sym (frame_list c.args.what c.args.number e c.in_default.not-Use)) (h sizes f book more)) c.write_runaway.ensures.err
