use Rattle.std.proofs.Common.{◌++◌, sym}
use Rattle.tex_syntax.specs.declared.words.Outcome.TheVariants.{AtFatal}
use Rattle.tex_defs.specs.declared.Fatal.TheVariants.{HundredErrors}
use Rattle.plain_machine.specs.Plan.{put_one, reported, page_behind, inserted_at, cut_or_not}
use Rattle.engine_state.specs.declared.outcome.Ruled.TheVariants.{Halted}
use Rattle.engine_state.specs.Stands.{page_of}
use Rattle.engine_state.specs.Rules.{away_text, space_moves}
use Rattle.engine_state.proofs.Counting.{call_counts}
use Rattle.engine_state.proofs.CheckingMoves.{put_stands, takes_still, away_full, away_rule, away_behind, away_cuts}
use Rattle.engine_state.proofs.Joining.{same_err, ok_to, err_both}
use Rattle.engine_state.proofs.CuttingReadings.{cuts_in}
use Rattle.engine_state.proofs.AtLocations.{only_frames, column_all}
use Rattle.engine_state.proofs.engine.Engine.run_away.Goals as goal

pub returns-in_err-write_scanned-clause-err : goal.returns-in_err-write_scanned-clause-err
returns-in_err-write_scanned-clause-err g c = let e = c.args.self.now in let i = c.in_err-write_scanned in
    same_err c.from_residual.result i.field-0.0 _ c.from_residual.ensures.1
    (λ sizes f book rest st. cuts_in sizes e c.write_scanned.new.self book _ _ _ _
    (i.ensures.err sizes f book (put_one (inserted_at c.args.what) ++ reported (page_behind (page_of e book) (away_text c.args.what c.args.number e)) c.args.report (cut_or_not c.args.what rest)))
    (only_frames e c.write_scanned.new.self c.write_scanned.ensures.only) st)

pub returns-in_err-put_one-clause-err : goal.returns-in_err-put_one-clause-err
returns-in_err-put_one-clause-err g c = let e = c.args.self.now in let e1 = c.write_scanned.new.self in let i = c.in_err-put_one in let only = c.write_scanned.ensures.only in
    same_err c.from_residual-in_err-put_one.result i.field-0.0 _ c.from_residual-in_err-put_one.ensures.1
    (rw (sym c.inserted.ensures) (λ sizes f book rest all. let st = column_all sizes e e1 book only all in
    away_full sizes e e1 c.put_one.new.self f (g.S.Sink.told c.args.out.now) (g.S.Sink.told c.write_scanned.new.out) (away_text c.args.what c.args.number e) c.inserted.result c.args.report (cut_or_not c.args.what rest) book only (c.put_one.ensures.page book)
    (c.in_ok-write_scanned.ensures.did sizes f book) i.field-0.0
    (cuts_in sizes e1 c.put_one.new.self book _ _ _ _ (i.ensures.err sizes _ book _ (call_counts sizes e1 book st) st.idle) c.put_one.ensures.frames st)))

pub returns-clause-on : goal.returns-clause-on
returns-clause-on g c = let e = c.args.self.now in let e1 = c.write_scanned.new.self in let e2 = c.put_one.new.self in let only = c.write_scanned.ensures.only in let p = c.put_one.ensures in
    rw (sym c.inserted.ensures) (ok_to c.report_check.result (λ on h is sizes f book want space page t.
    let st = column_all sizes e e1 book only t.1 in
    let t1 = takes_still sizes want e e1 book (only_frames e e1 only) st t in
    away_behind sizes e e1 e2 f (g.S.Sink.told c.args.out.now) (g.S.Sink.told c.write_scanned.new.out) (away_text c.args.what c.args.number e) c.inserted.result c.args.report (cut_or_not c.args.what (space_moves page space book.work)) book only (p.page book)
    (c.in_ok-write_scanned.ensures.did sizes f book) (g.S.Sink.told c.report_check.new.out) c.report_check.new.self
    (λ w. c.in_ok-put_one.ensures.did sizes w book (call_counts sizes e1 book st) st.idle) want space page
    (h is sizes f book want space page (takes_still sizes want e1 e2 book p.frames (put_stands sizes e1 e2 book p.frames p.others p.store c.in_ok-put_one.ensures.idle st) t1))) c.report_check.ensures.on)

pub returns-clause-last : goal.returns-clause-last
returns-clause-last g c = let e = c.args.self.now in let e1 = c.write_scanned.new.self in let e2 = c.put_one.new.self in let only = c.write_scanned.ensures.only in let p = c.put_one.ensures in
    rw (sym c.inserted.ensures) (ok_to c.report_check.result (λ on h is sizes f book rest all.
    let st = column_all sizes e e1 book only all in
    away_rule sizes e e1 e2 f (g.S.Sink.told c.args.out.now) (g.S.Sink.told c.write_scanned.new.out) (away_text c.args.what c.args.number e) c.inserted.result c.args.report (cut_or_not c.args.what rest) book only (p.page book)
    (c.in_ok-write_scanned.ensures.did sizes f book) (g.S.Sink.told c.report_check.new.out) c.report_check.new.self
    (λ w. c.in_ok-put_one.ensures.did sizes w book (call_counts sizes e1 book st) st.idle) (Halted (AtFatal HundredErrors))
    (h is sizes f book (cut_or_not c.args.what rest))) c.report_check.ensures.last)

pub returns-clause-err : goal.returns-clause-err
returns-clause-err g c = let e = c.args.self.now in let e1 = c.write_scanned.new.self in let e2 = c.put_one.new.self in let only = c.write_scanned.ensures.only in let p = c.put_one.ensures in
    rw (sym c.inserted.ensures) (err_both c.report_check.result (λ b h same sizes f book rest all.
    let st = column_all sizes e e1 book only all in
    let st2 = put_stands sizes e1 e2 book p.frames p.others p.store c.in_ok-put_one.ensures.idle st in
    away_cuts sizes e e1 e2 f (g.S.Sink.told c.args.out.now) (g.S.Sink.told c.write_scanned.new.out) (away_text c.args.what c.args.number e) c.inserted.result c.args.report (cut_or_not c.args.what rest) book only (p.page book)
    (c.in_ok-write_scanned.ensures.did sizes f book) (g.S.Sink.told c.report_check.new.out) c.report_check.new.self
    (λ w. c.in_ok-put_one.ensures.did sizes w book (call_counts sizes e1 book st) st.idle) b
    (cuts_in sizes e2 c.report_check.new.self book _ _ _ b (h sizes f book (cut_or_not c.args.what rest) st2.sound.sized.few_reports) same st2)) c.report_check.ensures.err c.report_check.ensures.frames)
