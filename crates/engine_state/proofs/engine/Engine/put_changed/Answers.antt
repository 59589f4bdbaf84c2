use Rattle.std.proofs.Common.{List, map, ◌++◌, sym, subst}
use Rattle.tex_defs.specs.declared.Token.{Token}
use Rattle.plain_machine.specs.declared.broken.Broken.TheVariants as broken
use Rattle.plain_machine.specs.States.{ListGrown}
use Rattle.plain_machine.specs.Plan.{put_made, put_text}
use Rattle.plain_machine.specs.Does.{Did}
use Rattle.equivalents.specs.Cases.{case_codes, case_changed}
use Rattle.reading_frames.specs.Views.{kept_list_of}
use Rattle.input_state.specs.HeldLists.{made}
use Rattle.engine_state.specs.declared.engine.Engine.{Engine}
use Rattle.engine_state.specs.Making.{IsInFront, changed_list}
use Rattle.engine_state.specs.Rules.{Cuts}
use Rattle.engine_state.specs.Stands.{IsSound, state_of, page_of}
use Rattle.engine_state.proofs.Changing.{changed_behind, listed_some}
use Rattle.engine_state.proofs.Joining.{same_err, on_ok, err_to}
use Rattle.engine_state.proofs.TextPutting.{stopped_cuts, stopped_front, grown_settled, grown_making, grown_front, front_join, whole_did, whole_cuts}
use Rattle.engine_state.proofs.engine.Engine.put_changed.Goals as goal

pub returns-in_err-begin_text-clause-err : goal.returns-in_err-begin_text-clause-err
returns-in_err-begin_text-clause-err c = let e = c.args.self.now in let i = c.in_err-begin_text in
    same_err c.from_residual.result i.field-0.0 _ c.from_residual.ensures.1
    (λ sizes w book more counts idle. let ts = map (case_changed (case_codes c.args.upper (page_of e book).now)) (kept_list_of c.args.listed e.input.builds) in i.ensures.err sizes w book ((map ListGrown ts ++ put_made ts) ++ more) counts.sound)

pub returns-in_err-some-clause-err : goal.returns-in_err-some-clause-err
returns-in_err-some-clause-err c = let e = c.args.self.now in let e1 = c.begin_text.new.self in let i2 = c.grow_changed.new.self.input in let b = c.in_ok-begin_text.ensures in let i = c.in_err-some in let ts = changed_list c.args.upper c.args.listed e1.input in
    same_err c.from_residual-in_err-some.result (broken.Full i.field-0.0) _ c.from_residual-in_err-some.ensures.1
    (λ sizes w book more counts idle.
    subst (λ (x : Engine). Cuts sizes (state_of e book) x book w w (put_text (map (case_changed (case_codes c.args.upper (page_of e book).now)) (kept_list_of c.args.listed e.input.builds)) ++ more) (broken.Full i.field-0.0)) (sym c.grow_changed.ensures.rest)
    (subst (λ (us : List Token). Cuts sizes (state_of e book) (record e1 { input = i2 }) book w w (put_text us ++ more) (broken.Full i.field-0.0)) (sym (changed_behind e e1 book c.begin_text.ensures.front c.args.upper c.args.listed))
    (stopped_cuts e e1 i2 ts b.begun c.begin_text.ensures.front c.begin_text.ensures.ended i.field-0.0 i.ensures.err sizes w book more counts.sound (b.did sizes w book counts.sound))))

pub returns-in_err-some-clause-front : goal.returns-in_err-some-clause-front
returns-in_err-some-clause-front c = let e = c.args.self.now in let e1 = c.begin_text.new.self in let b = c.in_ok-begin_text.ensures in
    subst (λ (x : Engine). IsInFront e x) (sym c.grow_changed.ensures.rest)
    (stopped_front e e1 c.grow_changed.new.self.input (changed_list c.args.upper c.args.listed e1.input) b.begun c.begin_text.ensures.front c.begin_text.ensures.ended c.in_err-some.field-0.0 c.in_err-some.ensures.err)

pub end_text-requires-clause-ended : goal.end_text-requires-clause-ended
end_text-requires-clause-ended c = let e1 = c.begin_text.new.self in
    grown_settled c.args.self.now e1 c.grow_changed.new.self.input (changed_list c.args.upper c.args.listed e1.input) c.in_ok-begin_text.ensures.begun c.begin_text.ensures.front c.begin_text.ensures.ended c.in_ok-some.ensures.ok

pub end_text-requires-clause-some : goal.end_text-requires-clause-some
end_text-requires-clause-some c = let e1 = c.begin_text.new.self in let i2 = c.grow_changed.new.self.input in let ts = changed_list c.args.upper c.args.listed e1.input in
    listed_some c.in_ok-some.some ts i2.making (grown_making c.args.self.now e1 i2 ts c.in_ok-begin_text.ensures.begun c.begin_text.ensures.front c.begin_text.ensures.ended c.in_ok-some.ensures.ok) c.in_ok-some.ensures.some

pub returns-clause-did : goal.returns-clause-did
returns-clause-did c = let e = c.args.self.now in let e1 = c.begin_text.new.self in let i2 = c.grow_changed.new.self.input in let b = c.in_ok-begin_text.ensures in let e3 = c.end_text.new.self in let ts = changed_list c.args.upper c.args.listed e1.input in
    on_ok c.end_text.result (λ h sizes w book counts idle.
    subst (λ (us : List Token). Did sizes (state_of e book) (state_of e3 book) w w (put_text us)) (sym (changed_behind e e1 book c.begin_text.ensures.front c.args.upper c.args.listed))
    (whole_did e e1 i2 ts b.begun c.begin_text.ensures.front c.begin_text.ensures.ended c.in_ok-some.ensures.ok sizes w book counts.sound (b.did sizes w book counts.sound) e3
    (subst (λ (x : Engine). IsSound sizes x book.number book.all_lists → Did sizes (state_of x book) (state_of e3 book) w w (put_made (made x.input.making))) c.grow_changed.ensures.rest (h sizes w book)))) c.end_text.ensures.did

pub returns-clause-err : goal.returns-clause-err
returns-clause-err c = let e = c.args.self.now in let e1 = c.begin_text.new.self in let i2 = c.grow_changed.new.self.input in let b = c.in_ok-begin_text.ensures in let e3 = c.end_text.new.self in let ts = changed_list c.args.upper c.args.listed e1.input in
    err_to c.end_text.result (λ y h sizes w book more counts idle.
    subst (λ (us : List Token). Cuts sizes (state_of e book) e3 book w w (put_text us ++ more) y) (sym (changed_behind e e1 book c.begin_text.ensures.front c.args.upper c.args.listed))
    (whole_cuts e e1 i2 ts b.begun c.begin_text.ensures.front c.begin_text.ensures.ended c.in_ok-some.ensures.ok sizes w book counts.sound (b.did sizes w book counts.sound) e3 y more
    (subst (λ (x : Engine). IsSound sizes x book.number book.all_lists → Cuts sizes (state_of x book) e3 book w w (put_made (made x.input.making) ++ more) y) c.grow_changed.ensures.rest (h sizes w book more)))) c.end_text.ensures.err

pub returns-clause-front : goal.returns-clause-front
returns-clause-front c = let e = c.args.self.now in let e1 = c.begin_text.new.self in let i2 = c.grow_changed.new.self.input in let b = c.in_ok-begin_text.ensures in let ts = changed_list c.args.upper c.args.listed e1.input in
    front_join e (record e1 { input = i2 }) c.end_text.new.self
    (grown_front e e1 i2 ts b.begun c.begin_text.ensures.front c.begin_text.ensures.ended c.in_ok-some.ensures.ok)
    (subst (λ (x : Engine). IsInFront x c.end_text.new.self) c.grow_changed.ensures.rest c.end_text.ensures.front)
