use Rattle.std.proofs.Common.{List, ◌∷◌, refl, sym, ap, ◌∙◌}
use Rattle.tex_defs.specs.declared.Token.{Token}
use Rattle.input_state.specs.Stored.{Stored}
use Rattle.engine_state.proofs.Closing.{put_none, put_fewer, put_cuts, put_on, put_kept, put_stays, all_put, all_kept}
use Rattle.engine_state.proofs.Joining.{same_err}
use Rattle.engine_state.proofs.engine.Engine.put_closing.Goals as goal

pub loop-token-init : goal.loop-token-init
loop-token-init c = put_none c.args.self.now c.requires.idle

pub next_after-requires : goal.next_after-requires
next_after-requires c = λ none. c.requires.closing (sym c.loop-token.invariant.ending ∙ none)

pub put_one-requires : goal.put_one-requires
put_one-requires c = record { idle = ap (λ (j : Stored). j.making) c.next_after.ensures.others ∙ c.loop-token.invariant.idle }

pub loop-token-smaller : goal.loop-token-smaller
loop-token-smaller c = put_fewer c.loop-token.self c.put_one.new.self.input c.in-Some.token (c.in-Some.ensures.next ∙ ap (λ (ts : List Token). c.in-Some.token ∷ ts) (sym c.put_one.ensures.store.closing))

pub loop-token-preserved : goal.loop-token-preserved
loop-token-preserved c = let e = c.args.self.now in let e1 = c.loop-token.self in let i = c.next_after.new.self in let k = c.put_one.ensures in
    let h = c.loop-token.invariant in let is = c.next_after.ensures.others in let t = c.in-Some.token in let next = c.in-Some.ensures.next in
    put_on e e1 h i is t next c.put_one.new.self (put_kept e e1 h i is t next c.put_one.new.self k.frames k.others k.store k.light) k.store (c.in-Some.ensures.goes_on refl) c.in_ok-put_one.ensures.idle c.in_ok-put_one.ensures.did

pub returns-in_err-put_one-clause-err : goal.returns-in_err-put_one-clause-err
returns-in_err-put_one-clause-err c = let n = c.in_err-put_one in
    same_err c.from_residual.result n.field-0.0 _ c.from_residual.ensures.1
    (put_cuts c.args.self.now c.loop-token.self c.loop-token.invariant c.next_after.new.self c.next_after.ensures.others c.in-Some.token c.in-Some.ensures.next c.put_one.new.self n.field-0.0 n.ensures.err)

pub returns-in_err-put_one-clause-sound : goal.returns-in_err-put_one-clause-sound
returns-in_err-put_one-clause-sound c = let e = c.args.self.now in let e1 = c.loop-token.self in let i = c.next_after.new.self in let k = c.put_one.ensures in
    let h = c.loop-token.invariant in let is = c.next_after.ensures.others in let t = c.in-Some.token in let next = c.in-Some.ensures.next in
    (put_stays e e1 h i is t next c.put_one.new.self (put_kept e e1 h i is t next c.put_one.new.self k.frames k.others k.store k.light)).sound

pub returns-clause-did : goal.returns-clause-did
returns-clause-did c = all_put c.args.self.now c.loop-token.self c.loop-token.invariant c.next_after.new.self c.next_after.ensures.others c.in_default.ensures.next

pub returns-clause-sound : goal.returns-clause-sound
returns-clause-sound c = (all_kept c.args.self.now c.loop-token.self c.loop-token.invariant c.next_after.new.self c.next_after.ensures.others).sound
