use Rattle.std.proofs.Common.{◌≡◌, List, sym, ◌∙◌, false}
use Rattle.plain_machine.specs.declared.broken.Broken.TheVariants as broken
use Rattle.plain_machine.specs.States.{Move}
use Rattle.stomach.specs.Obeying.{is_dropped}
use Rattle.engine_state.specs.Book.{Book}
use Rattle.engine_state.specs.CutReadings.{CutsIn}
use Rattle.engine_state.specs.Stands.{state_of, page_of}
use Rattle.engine_state.specs.Rules.{world_of, feeds_of, Went}
use Rattle.engine_state.proofs.Uncalled.{framed}
use Rattle.engine_state.proofs.Joining.{same_err, ok_to, err_to, onward_by, went_by, column_went}
use Rattle.engine_state.proofs.CuttingReadings.{in_by, column_in}
use Rattle.stomach.proofs.Handing.{obeyed_moves, fed_moves, feeds_innermost}
use Rattle.stomach.proofs.obeying.hand_on.Goals as goal

pub returns-in-None-clause-rule : goal.returns-in-None-clause-rule
returns-in-None-clause-rule g c = let e = c.args.engine.now in let n = c.obey in let x = c.args.x in
    rw c.in-None.is (ok_to n.result (λ ruled h sizes f book stays t.
    onward_by sizes (state_of e book) n.new.engine book _ _ _ _ ruled (obeyed_moves (page_of e book) book.work x stays) (h sizes f book (framed sizes e book (c.requires.uncalled c.in-None.is) t.1))) n.ensures.rule)

pub returns-in-None-clause-err : goal.returns-in-None-clause-err
returns-in-None-clause-err g c = let e = c.args.engine.now in let n = c.obey in let x = c.args.x in
    rw c.in-None.is (err_to n.result (λ b h sizes f book stays t.
    in_by sizes (state_of e book) n.new.engine _ _ _ _ b (obeyed_moves (page_of e book) book.work x stays) (h sizes f book (framed sizes e book (c.requires.uncalled c.in-None.is) t.1))) n.ensures.err)

-- A READING IS FED

pub returns-in_ok-feed-in-Some-2-clause-rule : goal.returns-in_ok-feed-in-Some-2-clause-rule
returns-in_ok-feed-in-Some-2-clause-rule g c = let e = c.args.engine.now in let e' = c.feed.new.self in let x = c.args.x in let w = c.in-Some.want in let n = c.in_ok-feed-in-Some-2.ensures in
    let fed : is_dropped w x ≡ false = sym c.is_dropped.ensures ∙ c.if-is_dropped.false in
    rw c.in-Some.is (λ sizes f book stays t.
    went_by sizes (state_of e book) e' _ _ (feeds_of book.work x) _ 0 (fed_moves (page_of e book) book.work x w fed stays)
    (column_went sizes (state_of e book) e' f _ e.in_line (feeds_of book.work x) 0 n.column
    (feeds_innermost sizes e w x (λ (b : Book) (ms : List Move). Went sizes (state_of e b) e' (world_of f (g.S.Sink.told c.args.out.now) e) (world_of f (g.S.Sink.told c.args.out.now) e) ms 0)
    (λ b r rs asks st. n.ok w sizes _ b r rs asks st) book t)))

pub returns-in_err-feed-in-Some-2-clause-err : goal.returns-in_err-feed-in-Some-2-clause-err
returns-in_err-feed-in-Some-2-clause-err g c = let e = c.args.engine.now in let e' = c.feed.new.self in let x = c.args.x in let w = c.in-Some.want in let i = c.in_err-feed-in-Some-2 in
    let fed : is_dropped w x ≡ false = sym c.is_dropped.ensures ∙ c.if-is_dropped.false in
    rw c.in-Some.is (same_err c.from_residual.result (broken.Full i.field-0.0) _ c.from_residual.ensures.1
    (λ sizes f book stays t.
    in_by sizes (state_of e book) e' _ _ (feeds_of book.work x) _ (broken.Full i.field-0.0) (fed_moves (page_of e book) book.work x w fed stays)
    (column_in sizes (state_of e book) e' f _ e.in_line (feeds_of book.work x) (broken.Full i.field-0.0) i.ensures.column
    (feeds_innermost sizes e w x (λ (b : Book) (ms : List Move). CutsIn sizes (state_of e b) e' (world_of f (g.S.Sink.told c.args.out.now) e) (world_of f (g.S.Sink.told c.args.out.now) e) ms (broken.Full i.field-0.0))
    (λ b r rs asks st. i.ensures.err w sizes _ b r rs asks st) book t))))
