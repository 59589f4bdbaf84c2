use Rattle.std.proofs.Common.{ℕ, List, map, ◌++◌, sym, subst}
use Rattle.plain_tokens.specs.Tokens.{made_text}
use Rattle.plain_machine.specs.declared.broken.Broken.TheVariants as broken
use Rattle.plain_machine.specs.States.{ListGrown}
use Rattle.plain_machine.specs.Plan.{put_made, put_text}
use Rattle.plain_machine.specs.Does.{Did}
use Rattle.input_state.specs.HeldLists.{made}
use Rattle.engine_state.specs.declared.engine.Engine.{Engine}
use Rattle.engine_state.specs.Making.{IsInFront, characters_in, characters_of}
use Rattle.engine_state.specs.Rules.{Cuts}
use Rattle.engine_state.specs.Stands.{IsSound, state_of, page_of}
use Rattle.engine_state.proofs.Joining.{same_err, on_ok, err_to}
use Rattle.engine_state.proofs.MadeTexts.{characters_behind, made_some}
use Rattle.engine_state.proofs.TextPutting.{stopped_cuts, stopped_front, grown_settled, grown_making, grown_front, front_join, whole_did, whole_cuts}
use Rattle.engine_state.proofs.engine.Engine.put_characters.Goals as goal

pub returns-in_err-begin_text-clause-err : goal.returns-in_err-begin_text-clause-err
returns-in_err-begin_text-clause-err c = let i = c.in_err-begin_text in
    same_err c.from_residual.result i.field-0.0 _ c.from_residual.ensures.1
    (λ sizes w book more counts idle. let ts = made_text (characters_of (page_of c.args.self.now book) c.args.made) in i.ensures.err sizes w book ((map ListGrown ts ++ put_made ts) ++ more) counts.sound)

pub returns-in_err-some-clause-err : goal.returns-in_err-some-clause-err
returns-in_err-some-clause-err c = let e = c.args.self.now in let b = c.in_ok-begin_text.ensures in let i = c.in_err-some in
    same_err c.from_residual-in_err-some.result (broken.Full i.field-0.0) _ c.from_residual-in_err-some.ensures.1
    (λ sizes w book more counts idle.
    subst (λ (x : Engine). Cuts sizes (state_of e book) x book w w (put_text (made_text (characters_of (page_of e book) c.args.made)) ++ more) (broken.Full i.field-0.0)) (sym c.grow_made.ensures.rest)
    (subst (λ (cs : List ℕ). Cuts sizes (state_of e book) (record c.begin_text.new.self { input = c.grow_made.new.self.input }) book w w (put_text (made_text cs) ++ more) (broken.Full i.field-0.0)) (sym (characters_behind sizes e c.begin_text.new.self book c.begin_text.ensures.front counts.sound c.args.made))
    (stopped_cuts c.args.self.now c.begin_text.new.self c.grow_made.new.self.input (made_text (characters_in c.begin_text.new.self c.args.made)) b.begun c.begin_text.ensures.front c.begin_text.ensures.ended i.field-0.0 i.ensures.err sizes w book more counts.sound (b.did sizes w book counts.sound))))

pub end_text-requires-clause-ended : goal.end_text-requires-clause-ended
end_text-requires-clause-ended c = let b = c.in_ok-begin_text.ensures in grown_settled c.args.self.now c.begin_text.new.self c.grow_made.new.self.input (made_text (characters_in c.begin_text.new.self c.args.made)) b.begun c.begin_text.ensures.front c.begin_text.ensures.ended c.in_ok-some.ensures.ok

pub end_text-requires-clause-some : goal.end_text-requires-clause-some
end_text-requires-clause-some c = let b = c.in_ok-begin_text.ensures in
    made_some c.in_ok-some.some (characters_in c.begin_text.new.self c.args.made) c.grow_made.new.self.input.making (grown_making c.args.self.now c.begin_text.new.self c.grow_made.new.self.input (made_text (characters_in c.begin_text.new.self c.args.made)) b.begun c.begin_text.ensures.front c.begin_text.ensures.ended c.in_ok-some.ensures.ok) c.in_ok-some.ensures.some

pub returns-clause-did : goal.returns-clause-did
returns-clause-did c = let e = c.args.self.now in let b = c.in_ok-begin_text.ensures in let e3 = c.end_text.new.self in
    on_ok c.end_text.result (λ h sizes w book counts idle.
    subst (λ (cs : List ℕ). Did sizes (state_of e book) (state_of e3 book) w w (put_text (made_text cs))) (sym (characters_behind sizes e c.begin_text.new.self book c.begin_text.ensures.front counts.sound c.args.made))
    (whole_did c.args.self.now c.begin_text.new.self c.grow_made.new.self.input (made_text (characters_in c.begin_text.new.self c.args.made)) b.begun c.begin_text.ensures.front c.begin_text.ensures.ended c.in_ok-some.ensures.ok sizes w book counts.sound (b.did sizes w book counts.sound) e3
    (subst (λ (x : Engine). IsSound sizes x book.number book.all_lists → Did sizes (state_of x book) (state_of e3 book) w w (put_made (made x.input.making))) c.grow_made.ensures.rest (h sizes w book)))) c.end_text.ensures.did

pub returns-clause-err : goal.returns-clause-err
returns-clause-err c = let e = c.args.self.now in let b = c.in_ok-begin_text.ensures in let e3 = c.end_text.new.self in
    err_to c.end_text.result (λ y h sizes w book more counts idle.
    subst (λ (cs : List ℕ). Cuts sizes (state_of e book) e3 book w w (put_text (made_text cs) ++ more) y) (sym (characters_behind sizes e c.begin_text.new.self book c.begin_text.ensures.front counts.sound c.args.made))
    (whole_cuts c.args.self.now c.begin_text.new.self c.grow_made.new.self.input (made_text (characters_in c.begin_text.new.self c.args.made)) b.begun c.begin_text.ensures.front c.begin_text.ensures.ended c.in_ok-some.ensures.ok sizes w book counts.sound (b.did sizes w book counts.sound) e3 y more
    (subst (λ (x : Engine). IsSound sizes x book.number book.all_lists → Cuts sizes (state_of x book) e3 book w w (put_made (made x.input.making) ++ more) y) c.grow_made.ensures.rest (h sizes w book more)))) c.end_text.ensures.err

pub returns-clause-frames : goal.returns-clause-frames
returns-clause-frames c = let b = c.in_ok-begin_text.ensures in (front_join c.args.self.now (record c.begin_text.new.self { input = c.grow_made.new.self.input }) c.end_text.new.self (grown_front c.args.self.now c.begin_text.new.self c.grow_made.new.self.input (made_text (characters_in c.begin_text.new.self c.args.made)) b.begun c.begin_text.ensures.front c.begin_text.ensures.ended c.in_ok-some.ensures.ok) (subst (λ (x : Engine). IsInFront x c.end_text.new.self) c.grow_made.ensures.rest c.end_text.ensures.front)).frames

pub returns-in_err-some-clause-frames : goal.returns-in_err-some-clause-frames
returns-in_err-some-clause-frames c = let b = c.in_ok-begin_text.ensures in (subst (λ (x : Engine). IsInFront c.args.self.now x) (sym c.grow_made.ensures.rest) (stopped_front c.args.self.now c.begin_text.new.self c.grow_made.new.self.input (made_text (characters_in c.begin_text.new.self c.args.made)) b.begun c.begin_text.ensures.front c.begin_text.ensures.ended c.in_err-some.field-0.0 c.in_err-some.ensures.err)).frames

pub returns-clause-others : goal.returns-clause-others
returns-clause-others c = let b = c.in_ok-begin_text.ensures in (front_join c.args.self.now (record c.begin_text.new.self { input = c.grow_made.new.self.input }) c.end_text.new.self (grown_front c.args.self.now c.begin_text.new.self c.grow_made.new.self.input (made_text (characters_in c.begin_text.new.self c.args.made)) b.begun c.begin_text.ensures.front c.begin_text.ensures.ended c.in_ok-some.ensures.ok) (subst (λ (x : Engine). IsInFront x c.end_text.new.self) c.grow_made.ensures.rest c.end_text.ensures.front)).others

pub returns-in_err-some-clause-others : goal.returns-in_err-some-clause-others
returns-in_err-some-clause-others c = let b = c.in_ok-begin_text.ensures in (subst (λ (x : Engine). IsInFront c.args.self.now x) (sym c.grow_made.ensures.rest) (stopped_front c.args.self.now c.begin_text.new.self c.grow_made.new.self.input (made_text (characters_in c.begin_text.new.self c.args.made)) b.begun c.begin_text.ensures.front c.begin_text.ensures.ended c.in_err-some.field-0.0 c.in_err-some.ensures.err)).others

pub returns-clause-store : goal.returns-clause-store
returns-clause-store c = let b = c.in_ok-begin_text.ensures in (front_join c.args.self.now (record c.begin_text.new.self { input = c.grow_made.new.self.input }) c.end_text.new.self (grown_front c.args.self.now c.begin_text.new.self c.grow_made.new.self.input (made_text (characters_in c.begin_text.new.self c.args.made)) b.begun c.begin_text.ensures.front c.begin_text.ensures.ended c.in_ok-some.ensures.ok) (subst (λ (x : Engine). IsInFront x c.end_text.new.self) c.grow_made.ensures.rest c.end_text.ensures.front)).store

pub returns-in_err-some-clause-store : goal.returns-in_err-some-clause-store
returns-in_err-some-clause-store c = let b = c.in_ok-begin_text.ensures in (subst (λ (x : Engine). IsInFront c.args.self.now x) (sym c.grow_made.ensures.rest) (stopped_front c.args.self.now c.begin_text.new.self c.grow_made.new.self.input (made_text (characters_in c.begin_text.new.self c.args.made)) b.begun c.begin_text.ensures.front c.begin_text.ensures.ended c.in_err-some.field-0.0 c.in_err-some.ensures.err)).store

pub returns-clause-light : goal.returns-clause-light
returns-clause-light c = let b = c.in_ok-begin_text.ensures in (front_join c.args.self.now (record c.begin_text.new.self { input = c.grow_made.new.self.input }) c.end_text.new.self (grown_front c.args.self.now c.begin_text.new.self c.grow_made.new.self.input (made_text (characters_in c.begin_text.new.self c.args.made)) b.begun c.begin_text.ensures.front c.begin_text.ensures.ended c.in_ok-some.ensures.ok) (subst (λ (x : Engine). IsInFront x c.end_text.new.self) c.grow_made.ensures.rest c.end_text.ensures.front)).light

pub returns-in_err-some-clause-light : goal.returns-in_err-some-clause-light
returns-in_err-some-clause-light c = let b = c.in_ok-begin_text.ensures in (subst (λ (x : Engine). IsInFront c.args.self.now x) (sym c.grow_made.ensures.rest) (stopped_front c.args.self.now c.begin_text.new.self c.grow_made.new.self.input (made_text (characters_in c.begin_text.new.self c.args.made)) b.begun c.begin_text.ensures.front c.begin_text.ensures.ended c.in_err-some.field-0.0 c.in_err-some.ensures.err)).light

pub returns-clause-page : goal.returns-clause-page
returns-clause-page c = let b = c.in_ok-begin_text.ensures in (front_join c.args.self.now (record c.begin_text.new.self { input = c.grow_made.new.self.input }) c.end_text.new.self (grown_front c.args.self.now c.begin_text.new.self c.grow_made.new.self.input (made_text (characters_in c.begin_text.new.self c.args.made)) b.begun c.begin_text.ensures.front c.begin_text.ensures.ended c.in_ok-some.ensures.ok) (subst (λ (x : Engine). IsInFront x c.end_text.new.self) c.grow_made.ensures.rest c.end_text.ensures.front)).page

pub returns-in_err-some-clause-page : goal.returns-in_err-some-clause-page
returns-in_err-some-clause-page c = let b = c.in_ok-begin_text.ensures in (subst (λ (x : Engine). IsInFront c.args.self.now x) (sym c.grow_made.ensures.rest) (stopped_front c.args.self.now c.begin_text.new.self c.grow_made.new.self.input (made_text (characters_in c.begin_text.new.self c.args.made)) b.begun c.begin_text.ensures.front c.begin_text.ensures.ended c.in_err-some.field-0.0 c.in_err-some.ensures.err)).page
