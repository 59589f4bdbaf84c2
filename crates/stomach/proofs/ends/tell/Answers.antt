use Rattle.std.proofs.Common.{◌∷◌, ◌++◌, sym, ap, subst, ◌∙◌}
use Rattle.tex_syntax.specs.declared.words.Outcome.TheVariants.{AtFatal}
use Rattle.tex_defs.specs.declared.Fatal.TheVariants as fatal
use Rattle.reading_frames.specs.Weights.{IsReported}
use Rattle.plain_machine.specs.declared.broken.Broken.TheVariants as broken
use Rattle.plain_machine.specs.Plan.{reported, given_back, put_inserted, noting}
use Rattle.plain_machine.proofs.Doing.{did_join}
use Rattle.input_state.specs.Stored.{Stored}
use Rattle.engine_state.specs.Book.{with_work}
use Rattle.engine_state.specs.Rules.{world_of}
use Rattle.engine_state.specs.Stands.{page_of}
use Rattle.plain_machine.specs.Weights.{pending_weight}
use Rattle.engine_state.proofs.CallEnding.{put_stands, reported_stands}
use Rattle.engine_state.proofs.CheckingMoves.{asks_kept}
use Rattle.engine_state.proofs.Counting.{call_counts}
use Rattle.engine_state.proofs.Joining.{same_err}
use Rattle.engine_state.proofs.CuttingReadings.{cuts_in}
use Rattle.engine_state.proofs.Putting.{told_first, told_second, told_went, told_halts, told_cuts}
use Rattle.engine_state.proofs.AtLocations.{frames_join}
use Rattle.stomach.proofs.Telling.{frames_halt, noted_light, told_note_in}
use Rattle.stomach.proofs.ends.tell.Goals as goal

pub returns-in_err-put_back-clause-err : goal.returns-in_err-put_back-clause-err
returns-in_err-put_back-clause-err g c = let e = c.args.engine.now in let i = c.in_err-put_back in
    same_err c.from_residual.result i.field-0.0 _ c.from_residual.ensures.1
    (λ sizes f book r rs asks st. let at = with_work (r ∷ rs) book in
    cuts_in sizes e c.put_back.new.self at _ _ _ i.field-0.0 (told_first sizes e f (g.S.Sink.told c.args.out.now) book r rs c.args.report c.args.inserted c.args.back c.put_back.new.self i.field-0.0 c.put_back.ensures.others.in_line
    (i.ensures.err sizes (world_of f (g.S.Sink.told c.args.out.now) e) at (put_inserted c.args.inserted ++ reported (page_of e book) c.args.report (noting r)) (call_counts sizes e at st) st.idle)) c.put_back.ensures.frames st)

pub returns-in_err-insert-clause-err : goal.returns-in_err-insert-clause-err
returns-in_err-insert-clause-err g c = let e = c.args.engine.now in let e1 = c.put_back.new.self in let p = c.put_back.ensures in let q = c.insert.ensures in let i = c.in_err-insert in
    same_err c.from_residual-in_err-insert.result i.field-0.0 _ c.from_residual-in_err-insert.ensures.1
    (λ sizes f book r rs asks st. let at = with_work (r ∷ rs) book in let w = world_of f (g.S.Sink.told c.args.out.now) e in
    let st1 = put_stands sizes e e1 at p.frames p.others p.store c.in_ok-put_back.ensures.idle st in
    cuts_in sizes e c.insert.new.self at _ _ _ i.field-0.0 (told_second sizes e f (g.S.Sink.told c.args.out.now) book r rs c.args.report c.args.inserted c.args.back e1 c.insert.new.self i.field-0.0 (q.others.in_line ∙ p.others.in_line)
    (c.in_ok-put_back.ensures.did sizes w at (call_counts sizes e at st) st.idle)
    (i.ensures.err sizes w at (reported (page_of e book) c.args.report (noting r)) (call_counts sizes e1 at st1) st1.idle)) (frames_join e e1 c.insert.new.self p.frames q.frames) st)

pub returns-in_err-report-clause-err : goal.returns-in_err-report-clause-err
returns-in_err-report-clause-err g c = let e = c.args.engine.now in let e1 = c.put_back.new.self in let e2 = c.insert.new.self in let p = c.put_back.ensures in let q = c.insert.ensures in let i = c.in_err-report in
    same_err c.from_residual-in_err-report.result i.field-0.0 _ c.from_residual-in_err-report.ensures.1
    (λ sizes f book r rs asks st. let at = with_work (r ∷ rs) book in let w = world_of f (g.S.Sink.told c.args.out.now) e in
    let st1 = put_stands sizes e e1 at p.frames p.others p.store c.in_ok-put_back.ensures.idle st in
    let st2 = put_stands sizes e1 e2 at q.frames q.others q.store c.in_ok-insert.ensures.idle st1 in
    cuts_in sizes e c.report.new.self at _ _ _ i.field-0.0 (told_cuts sizes e f (g.S.Sink.told c.args.out.now) book r rs c.args.report c.args.inserted c.args.back e2 c.report.new.self (g.S.Sink.told c.report.new.out) (q.page book ∙ p.page book)
    (did_join sizes _ _ _ w w w (given_back c.args.back e.last) (put_inserted c.args.inserted) (c.in_ok-put_back.ensures.did sizes w at (call_counts sizes e at st) st.idle) (c.in_ok-insert.ensures.did sizes w at (call_counts sizes e1 at st1) st1.idle)) i.field-0.0
    (i.ensures.err sizes f at (noting r) st2.sound.sized.few_reports)) (frames_join e e1 c.report.new.self p.frames (frames_join e1 e2 c.report.new.self q.frames c.report.ensures.frames)) st)

pub returns-in_err-note-clause-err : goal.returns-in_err-note-clause-err
returns-in_err-note-clause-err g c = let e = c.args.engine.now in let e1 = c.put_back.new.self in let e2 = c.insert.new.self in let e3 = c.report.new.self in let p = c.put_back.ensures in let q = c.insert.ensures in let i = c.in_err-note in let k = c.in_ok-report.ensures in
    same_err c.from_residual-in_err-note.result (broken.Full i.field-0.0) _ c.from_residual-in_err-note.ensures.1
    (λ sizes f book r rs asks st. let at = with_work (r ∷ rs) book in let w = world_of f (g.S.Sink.told c.args.out.now) e in
    let st1 = put_stands sizes e e1 at p.frames p.others p.store c.in_ok-put_back.ensures.idle st in
    let st2 = put_stands sizes e1 e2 at q.frames q.others q.store c.in_ok-insert.ensures.idle st1 in
    let st3 = reported_stands sizes e2 e3 at c.report.ensures.frames c.report.ensures.input (k.sized c.if-branch.true sizes) st2 in
    told_note_in sizes e f (g.S.Sink.told c.args.out.now) book r rs c.args.report c.args.inserted c.args.back e2 e3 (g.S.Sink.told c.report.new.out) (q.page book ∙ p.page book) c.note.new.self (broken.Full i.field-0.0)
    (did_join sizes _ _ _ w w w (given_back c.args.back e.last) (put_inserted c.args.inserted) (c.in_ok-put_back.ensures.did sizes w at (call_counts sizes e at st) st.idle) (c.in_ok-insert.ensures.did sizes w at (call_counts sizes e1 at st1) st1.idle))
    (k.on c.if-branch.true sizes f at (noting r)) c.note.ensures.column (i.ensures.err sizes (world_of f (g.S.Sink.told c.report.new.out) e3) book r rs (subst IsReported (sym (asks_kept e e3 (frames_join e e1 e3 p.frames (frames_join e1 e2 e3 q.frames c.report.ensures.frames)))) asks) st3))

pub returns-then-branch-clause-rule : goal.returns-then-branch-clause-rule
returns-then-branch-clause-rule g c = let e = c.args.engine.now in let e1 = c.put_back.new.self in let e2 = c.insert.new.self in let e3 = c.report.new.self in let p = c.put_back.ensures in let q = c.insert.ensures in let k = c.in_ok-report.ensures in
    λ sizes f book r rs asks st. let at = with_work (r ∷ rs) book in let w = world_of f (g.S.Sink.told c.args.out.now) e in
    let st1 = put_stands sizes e e1 at p.frames p.others p.store c.in_ok-put_back.ensures.idle st in
    let st2 = put_stands sizes e1 e2 at q.frames q.others q.store c.in_ok-insert.ensures.idle st1 in
    let st3 = reported_stands sizes e2 e3 at c.report.ensures.frames c.report.ensures.input (k.sized c.if-branch.true sizes) st2 in
    told_went sizes e f (g.S.Sink.told c.args.out.now) book r rs c.args.report c.args.inserted c.args.back e2 e3 (g.S.Sink.told c.report.new.out) (q.page book ∙ p.page book)
    (did_join sizes _ _ _ w w w (given_back c.args.back e.last) (put_inserted c.args.inserted) (c.in_ok-put_back.ensures.did sizes w at (call_counts sizes e at st) st.idle) (c.in_ok-insert.ensures.did sizes w at (call_counts sizes e1 at st1) st1.idle)) c.note.new.self
    (k.on c.if-branch.true sizes f at (noting r)) c.note.ensures.column
    (c.in_ok-note.ensures.ok sizes (world_of f (g.S.Sink.told c.report.new.out) e3) book r rs (subst IsReported (sym (asks_kept e e3 (frames_join e e1 e3 p.frames (frames_join e1 e2 e3 q.frames c.report.ensures.frames)))) asks) st3)

pub returns-clause-rule : goal.returns-clause-rule
returns-clause-rule g c = let e = c.args.engine.now in let e1 = c.put_back.new.self in let e2 = c.insert.new.self in let p = c.put_back.ensures in let q = c.insert.ensures in
    λ sizes f book r rs asks st. let at = with_work (r ∷ rs) book in let w = world_of f (g.S.Sink.told c.args.out.now) e in
    let st1 = put_stands sizes e e1 at p.frames p.others p.store c.in_ok-put_back.ensures.idle st in
    frames_halt sizes e c.report.new.self _ at _ _ _ (AtFatal fatal.HundredErrors) 1 (frames_join e e1 c.report.new.self p.frames (frames_join e1 e2 c.report.new.self q.frames c.report.ensures.frames)) st
    (told_halts sizes e f (g.S.Sink.told c.args.out.now) book r rs c.args.report c.args.inserted c.args.back e2 c.report.new.self (g.S.Sink.told c.report.new.out) (q.page book ∙ p.page book)
    (did_join sizes _ _ _ w w w (given_back c.args.back e.last) (put_inserted c.args.inserted) (c.in_ok-put_back.ensures.did sizes w at (call_counts sizes e at st) st.idle) (c.in_ok-insert.ensures.did sizes w at (call_counts sizes e1 at st1) st1.idle)) (AtFatal fatal.HundredErrors) (q.others.reports ∙ p.others.reports)
    (c.in_ok-report.ensures.last c.if-branch.false sizes f at (noting r)))

pub returns-then-branch-clause-light : goal.returns-then-branch-clause-light
returns-then-branch-clause-light g c = let e = c.args.engine.now in let e1 = c.put_back.new.self in let e2 = c.insert.new.self in let e3 = c.report.new.self in let n = c.in_ok-note.ensures in
    λ free asks. noted_light e e3 c.note.new.self (frames_join e e1 e3 c.put_back.ensures.frames (frames_join e1 e2 e3 c.insert.ensures.frames c.report.ensures.frames))
    (ap (λ (x : Stored). pending_weight x.pending) c.report.ensures.input ∙ (c.insert.ensures.light ∙ c.put_back.ensures.light)) n.light asks
