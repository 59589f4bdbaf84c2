use Rattle.std.proofs.Common.{◌≡◌, subst, Bool}
use Rattle.plain_tokens.specs.Lookup.{token_of, new_name}
use Rattle.engine_state.specs.Entering.{with_names, EntryFits, EntryRefused}
use Rattle.plain_machine.specs.declared.broken.Broken.TheVariants as broken
use Rattle.engine_state.specs.Rules.{scanning_of}
use Rattle.engine_state.proofs.Joining.{same_err, ok_to, err_to}
use Rattle.engine_state.proofs.CuttingReadings.{cuts_in}
use Rattle.engine_state.proofs.Pulling.{name_meets, name_cuts, name_full, takes_named}
use Rattle.engine_state.proofs.engine.Engine.meet_name.Goals as goal

pub returns-in_err-token-clause-err : goal.returns-in_err-token-clause-err
returns-in_err-token-clause-err g c = let e = c.args.self.now in let i = c.in_err-token in
    same_err c.from_residual.result (broken.Full i.field-0.0) _ c.from_residual.ensures.1
    (λ sizes f book want x enters is t. cuts_in sizes e c.resolve.new.self book _ _ _ _ (name_full sizes e book want (scanning_of e book.work) x c.resolve.new.self f (g.S.Sink.told c.args.out.now) i.field-0.0 t.1.sound.sized i.ensures.err
    (subst (λ (b : Bool). EntryRefused e.names (new_name b e.names.names x) i.field-0.0) enters (i.ensures.refused x is))) c.resolve.ensures.frames t.1)

pub returns-clause-rule : goal.returns-clause-rule
returns-clause-rule g c = let e = c.args.self.now in let i = c.in_ok-token in let e1 = c.resolve.new.self in
    ok_to c.meet.result (λ met h sizes f book want x enters is t.
    let token = subst (λ (b : Bool). i.token ≡ token_of b e.names.names x) enters (i.ensures.token x is) in
    let after = subst (λ (b : Bool). e1 ≡ with_names (new_name b e.names.names x) e) enters (i.ensures.after sizes x t.1.sound.sized is) in
    let fits = subst (λ (b : Bool). EntryFits e.names (new_name b e.names.names x)) enters (i.ensures.fits x is) in
    name_meets sizes e book want x i.token token t.1.sound e1 c.meet.new.self f (g.S.Sink.told c.args.out.now) _ met after fits
    (h sizes f book want (takes_named sizes e book want x i.token token t.1.sound e1 after t))) c.meet.ensures.rule

pub returns-clause-err : goal.returns-clause-err
returns-clause-err g c = let e = c.args.self.now in let i = c.in_ok-token in let e1 = c.resolve.new.self in
    err_to c.meet.result (λ b h sizes f book want x enters is t.
    let token = subst (λ (y : Bool). i.token ≡ token_of y e.names.names x) enters (i.ensures.token x is) in
    let after = subst (λ (y : Bool). e1 ≡ with_names (new_name y e.names.names x) e) enters (i.ensures.after sizes x t.1.sound.sized is) in
    let fits = subst (λ (y : Bool). EntryFits e.names (new_name y e.names.names x)) enters (i.ensures.fits x is) in
    name_cuts sizes e book want x i.token token t.1.sound e1 c.meet.new.self f (g.S.Sink.told c.args.out.now) _ b after fits
    (h sizes f book want (takes_named sizes e book want x i.token token t.1.sound e1 after t))) c.meet.ensures.err
