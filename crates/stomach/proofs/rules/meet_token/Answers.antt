use Rattle.std.proofs.Common.{◌≡◌, [], ap, true, false}
use Rattle.plain_tokens.specs.Meanings.{is_expandable}
use Rattle.plain_machine.specs.Plan.{expanded}
use Rattle.engine_state.specs.Stands.{state_of, page_of}
use Rattle.engine_state.specs.Rules.{onward_of}
use Rattle.engine_state.proofs.Uncalled.{framed}
use Rattle.engine_state.proofs.CuttingReadings.{in_by}
use Rattle.engine_state.proofs.Joining.{ok_to, err_to, onward_by, when_true, when_false}
use Rattle.gullet.specs.Stepping.{wants_raw, Stays}
use Rattle.gullet.proofs.Expanding.{onward_expands}
use Rattle.stomach.proofs.rules.meet_token.Goals as goal

-- IT STAYS

pub hand_on-requires-clause-uncalled : goal.hand_on-requires-clause-uncalled
hand_on-requires-clause-uncalled g c none = c.requires.uncalled (ap wants_raw none)

pub returns-then-stays-clause-rule : goal.returns-then-stays-clause-rule
returns-then-stays-clause-rule g c = let stays : Stays c.args.want c.args.seen = when_true _ _ c.stays.result c.if-stays.true c.stays.ensures.stays in
    ok_to c.hand_on.result (λ ruled h sizes f book t. h sizes f book stays t) c.hand_on.ensures.rule

pub returns-then-stays-clause-err : goal.returns-then-stays-clause-err
returns-then-stays-clause-err g c = let stays : Stays c.args.want c.args.seen = when_true _ _ c.stays.result c.if-stays.true c.stays.ensures.stays in
    err_to c.hand_on.result (λ b h sizes f book t. h sizes f book stays t) c.hand_on.ensures.err

pub returns-then-stays-clause-goes : goal.returns-then-stays-clause-goes
returns-then-stays-clause-goes g c = ok_to c.hand_on.result (λ ruled h halted. ap wants_raw (h halted)) c.hand_on.ensures.obeyed

-- IT IS EXPANDED

pub expand-requires-clause-uncalled : goal.expand-requires-clause-uncalled
expand-requires-clause-uncalled g c = c.requires.uncalled (when_false _ _ c.stays.result c.if-stays.false c.stays.ensures.stays)

pub expand-requires-clause-expands : goal.expand-requires-clause-expands
expand-requires-clause-expands g c = when_false _ _ c.stays.result c.if-stays.false c.stays.ensures.expands

pub returns-clause-rule : goal.returns-clause-rule
returns-clause-rule g c = let e = c.args.engine.now in let e2 = c.expand.new.engine in let x = c.args.seen in
    let raw : wants_raw c.args.want ≡ false = when_false _ _ c.stays.result c.if-stays.false c.stays.ensures.stays in
    let is : is_expandable x.meaning ≡ true = when_false _ _ c.stays.result c.if-stays.false c.stays.ensures.expands in
    ok_to c.expand.result (λ ruled h sizes f book t.
    onward_by sizes (state_of e book) e2 book _ _ (expanded (page_of e book) x []) (onward_of (page_of e book) c.args.want book.work x) ruled (onward_expands (page_of e book) c.args.want book.work x raw is)
    (h sizes f book (framed sizes e book (c.requires.uncalled raw) t.1))) c.expand.ensures.rule

pub returns-clause-err : goal.returns-clause-err
returns-clause-err g c = let e = c.args.engine.now in let e2 = c.expand.new.engine in let x = c.args.seen in
    let raw : wants_raw c.args.want ≡ false = when_false _ _ c.stays.result c.if-stays.false c.stays.ensures.stays in
    let is : is_expandable x.meaning ≡ true = when_false _ _ c.stays.result c.if-stays.false c.stays.ensures.expands in
    err_to c.expand.result (λ b h sizes f book t.
    in_by sizes (state_of e book) e2 _ _ (expanded (page_of e book) x []) (onward_of (page_of e book) c.args.want book.work x) b (onward_expands (page_of e book) c.args.want book.work x raw is)
    (h sizes f book (framed sizes e book (c.requires.uncalled raw) t.1))) c.expand.ensures.err

pub returns-clause-goes : goal.returns-clause-goes
returns-clause-goes g c = ok_to c.expand.result (λ ruled h halted. when_false _ _ c.stays.result c.if-stays.false c.stays.ensures.stays) c.expand.ensures.on
