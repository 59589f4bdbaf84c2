use Rattle.std.proofs.Common.{◌≡◌, List, [], ◌∷◌, ◌++◌, Bool, ap, sym, subst, rules, w32, FitsSigned}
use Rattle.std.proofs.lemmas.Int.{to_z-of_z}
use Rattle.plain_tokens.specs.Meanings.{meaning_to_let}
use Rattle.equivalents.specs.declared.values.Val.TheVariants as val
use Rattle.equivalents.specs.Tables.{get}
use Rattle.plain_machine.specs.States.{Move, Set, Assigned}
use Rattle.plain_machine.specs.Plan.{is_global, put_one, short_meaning, behind_assignment}
use Rattle.plain_machine.specs.Does.{Did}
use Rattle.engine_state.specs.Rules.{world_of}
use Rattle.engine_state.specs.Stands.{state_of, page_of}
use Rattle.engine_state.proofs.Counting.{counts_of}
use Rattle.engine_state.proofs.Cutting.{cuts_by}
use Rattle.engine_state.proofs.Joining.{on_ok, err_to, same_err}
use Rattle.stomach.specs.Effects.{put_by, done_alone}
use Rattle.stomach.proofs.ActingAlone.{did_still, cuts_still, set_cuts, behind_did, behind_cuts, behind_stands, front_stands, put_alone}
use Rattle.stomach.proofs.effects.act_alone.Goals as goal

pub returns-in-Show-clause-did : goal.returns-in-Show-clause-did
returns-in-Show-clause-did g c = rw c.in-Show.is (on_ok c.show.result (λ h small sizes f book st. h sizes f book st.sound) c.show.ensures.did)

pub returns-in-Show-clause-err : goal.returns-in-Show-clause-err
returns-in-Show-clause-err g c = rw c.in-Show.is (err_to c.show.result (λ b h small sizes f book more st. h sizes f book more st.sound) c.show.ensures.err)

pub returns-in-ShowValue-clause-did : goal.returns-in-ShowValue-clause-did
returns-in-ShowValue-clause-did g c = rw c.in-ShowValue.is (on_ok c.show_value.result (λ h small sizes f book st. h small sizes f book st.sound) c.show_value.ensures.did)

pub returns-in-ShowValue-clause-err : goal.returns-in-ShowValue-clause-err
returns-in-ShowValue-clause-err g c = rw c.in-ShowValue.is (err_to c.show_value.result (λ b h small sizes f book more st. h sizes f book more st.sound) c.show_value.ensures.err)

pub returns-in-ShowNumber-clause-did : goal.returns-in-ShowNumber-clause-did
returns-in-ShowNumber-clause-did g c = let n = c.in-ShowNumber.n in let fits : FitsSigned w32 n = search rules in
    rw c.in-ShowNumber.is (on_ok c.show_number.result (λ h small sizes f book st. (rw (to_z-of_z w32 n fits) at h) sizes f book) c.show_number.ensures.did)

pub returns-in-ShowNumber-clause-err : goal.returns-in-ShowNumber-clause-err
returns-in-ShowNumber-clause-err g c = let n = c.in-ShowNumber.n in let fits : FitsSigned w32 n = search rules in
    rw c.in-ShowNumber.is (err_to c.show_number.result (λ b h small sizes f book more st. (rw (to_z-of_z w32 n fits) at h) sizes f book more) c.show_number.ensures.err)

pub returns-in_err-assign-in-Let-clause-err : goal.returns-in_err-assign-in-Let-clause-err
returns-in_err-assign-in-Let-clause-err g c =
    let e = c.args.engine.now in let e1 = c.assign.new.engine in let t = g.S.Sink.told c.args.out.now in let d = c.in-Let in let is = c.is_global-global in
    let n = c.in_err-assign-in-Let in let r = c.from_residual in
    let column : e1.in_line ≡ e.in_line = search (rules, c.assign.ensures.only) in
    rw d.is
    (same_err r.result n.field-0.0 _ r.ensures.1 (λ small sizes f book more st.
    set_cuts sizes e e1 book f t (λ (b : Bool). Assigned b d.name (meaning_to_let (page_of e book).now.meanings d.x) ∷ [])
    is.result (is_global (page_of e book) c.args.call) (is.ensures book) column
    n.field-0.0 more (n.ensures.err sizes (world_of f t e) book (behind_assignment e.after ++ more) st)))

pub returns-in_ok-assign-in-Let-clause-did : goal.returns-in_ok-assign-in-Let-clause-did
returns-in_ok-assign-in-Let-clause-did g c =
    let e = c.args.engine.now in let e1 = c.assign.new.engine in let t = g.S.Sink.told c.args.out.now in let d = c.in-Let in let is = c.is_global-global in
    let n = c.in_ok-assign-in-Let.ensures in let p = c.put_after in
    let column : e1.in_line ≡ e.in_line = search (rules, c.assign.ensures.only) in
    let after : e1.after ≡ e.after = search (rules, c.assign.ensures.only) in
    rw d.is
    (on_ok p.result (λ h small sizes f book st.
    behind_did sizes e e1 book f t (λ (b : Bool). Assigned b d.name (meaning_to_let (page_of e book).now.meanings d.x) ∷ [])
    is.result (is_global (page_of e book) c.args.call) (is.ensures book) column
    p.new.self p.ensures.others after (n.did sizes (world_of f t e) book st)
    (h sizes (world_of f t e) book (counts_of sizes e1 book (n.stands sizes book st)))) p.ensures.did)

pub returns-in_ok-assign-in-Let-clause-err : goal.returns-in_ok-assign-in-Let-clause-err
returns-in_ok-assign-in-Let-clause-err g c =
    let e = c.args.engine.now in let e1 = c.assign.new.engine in let t = g.S.Sink.told c.args.out.now in let d = c.in-Let in let is = c.is_global-global in
    let n = c.in_ok-assign-in-Let.ensures in let p = c.put_after in
    let column : e1.in_line ≡ e.in_line = search (rules, c.assign.ensures.only) in
    let after : e1.after ≡ e.after = search (rules, c.assign.ensures.only) in
    rw d.is
    (err_to p.result (λ b h small sizes f book more st.
    behind_cuts sizes e e1 book f t (λ (b : Bool). Assigned b d.name (meaning_to_let (page_of e book).now.meanings d.x) ∷ [])
    is.result (is_global (page_of e book) c.args.call) (is.ensures book) column
    p.new.self p.ensures.others after (n.did sizes (world_of f t e) book st) b more
    (h sizes (world_of f t e) book more (counts_of sizes e1 book (n.stands sizes book st)))) p.ensures.err)

pub returns-in_ok-assign-in-Let-clause-stands : goal.returns-in_ok-assign-in-Let-clause-stands
returns-in_ok-assign-in-Let-clause-stands g c = let n = c.in_ok-assign-in-Let.ensures in let p = c.put_after in let s = p.ensures in
    on_ok p.result (λ idle sizes book st. behind_stands sizes c.assign.new.engine p.new.self book s.frames s.others s.store idle (n.stands sizes book st)) s.idle

pub returns-in_err-assign_behind-in-FutureLet-clause-err : goal.returns-in_err-assign_behind-in-FutureLet-clause-err
returns-in_err-assign_behind-in-FutureLet-clause-err g c =
    let e = c.args.engine.now in let e1 = c.assign_behind.new.engine in let t = g.S.Sink.told c.args.out.now in let d = c.in-FutureLet in let is = c.is_global-global-in-FutureLet in
    let n = c.in_err-assign_behind-in-FutureLet in let r = c.from_residual-in_err-assign_behind-in-FutureLet in
    let column = c.assign_behind.ensures.column in
    rw d.is
    (same_err r.result n.field-0.0 _ r.ensures.1 (λ small sizes f book more st.
    set_cuts sizes e e1 book f t (λ (b : Bool). put_one d.y.token ++ (put_one d.x.token ++ Assigned b d.name (meaning_to_let (page_of e book).now.meanings d.y) ∷ []))
    is.result (is_global (page_of e book) c.args.call) (is.ensures book) column
    n.field-0.0 more (n.ensures.err sizes (world_of f t e) book (behind_assignment e.after ++ more) st)))

pub returns-in_ok-assign_behind-in-FutureLet-clause-did : goal.returns-in_ok-assign_behind-in-FutureLet-clause-did
returns-in_ok-assign_behind-in-FutureLet-clause-did g c =
    let e = c.args.engine.now in let e1 = c.assign_behind.new.engine in let t = g.S.Sink.told c.args.out.now in let d = c.in-FutureLet in let is = c.is_global-global-in-FutureLet in
    let n = c.in_ok-assign_behind-in-FutureLet.ensures in let p = c.put_after-in-FutureLet in
    let column = c.assign_behind.ensures.column in
    let after = c.assign_behind.ensures.after in
    rw d.is
    (on_ok p.result (λ h small sizes f book st.
    behind_did sizes e e1 book f t (λ (b : Bool). put_one d.y.token ++ (put_one d.x.token ++ Assigned b d.name (meaning_to_let (page_of e book).now.meanings d.y) ∷ []))
    is.result (is_global (page_of e book) c.args.call) (is.ensures book) column
    p.new.self p.ensures.others after (n.did sizes (world_of f t e) book st)
    (h sizes (world_of f t e) book (counts_of sizes e1 book (n.stands sizes book st)))) p.ensures.did)

pub returns-in_ok-assign_behind-in-FutureLet-clause-err : goal.returns-in_ok-assign_behind-in-FutureLet-clause-err
returns-in_ok-assign_behind-in-FutureLet-clause-err g c =
    let e = c.args.engine.now in let e1 = c.assign_behind.new.engine in let t = g.S.Sink.told c.args.out.now in let d = c.in-FutureLet in let is = c.is_global-global-in-FutureLet in
    let n = c.in_ok-assign_behind-in-FutureLet.ensures in let p = c.put_after-in-FutureLet in
    let column = c.assign_behind.ensures.column in
    let after = c.assign_behind.ensures.after in
    rw d.is
    (err_to p.result (λ b h small sizes f book more st.
    behind_cuts sizes e e1 book f t (λ (b : Bool). put_one d.y.token ++ (put_one d.x.token ++ Assigned b d.name (meaning_to_let (page_of e book).now.meanings d.y) ∷ []))
    is.result (is_global (page_of e book) c.args.call) (is.ensures book) column
    p.new.self p.ensures.others after (n.did sizes (world_of f t e) book st) b more
    (h sizes (world_of f t e) book more (counts_of sizes e1 book (n.stands sizes book st)))) p.ensures.err)

pub returns-in_ok-assign_behind-in-FutureLet-clause-stands : goal.returns-in_ok-assign_behind-in-FutureLet-clause-stands
returns-in_ok-assign_behind-in-FutureLet-clause-stands g c = let n = c.in_ok-assign_behind-in-FutureLet.ensures in let p = c.put_after-in-FutureLet in let s = p.ensures in
    on_ok p.result (λ idle sizes book st. behind_stands sizes c.assign_behind.new.engine p.new.self book s.frames s.others s.store idle (n.stands sizes book st)) s.idle

pub returns-in_err-set_number-in-SetNumber-clause-err : goal.returns-in_err-set_number-in-SetNumber-clause-err
returns-in_err-set_number-in-SetNumber-clause-err g c =
    let e = c.args.engine.now in let e1 = c.set_number.new.engine in let t = g.S.Sink.told c.args.out.now in let d = c.in-SetNumber in let is = c.is_global-global-in-SetNumber in
    let n = c.in_err-set_number-in-SetNumber in let r = c.from_residual-in_err-set_number-in-SetNumber in
    let value : FitsSigned w32 d.value = search rules in
    let column : e1.in_line ≡ e.in_line = search (rules, c.set_number.ensures.only) in
    rw d.is
    (same_err r.result n.field-0.0 _ r.ensures.1 (λ small sizes f book more st.
    set_cuts sizes e e1 book f t (λ (b : Bool). Set b d.loc (val.Number d.value) ∷ [])
    is.result (is_global (page_of e book) c.args.call) (is.ensures book) column
    n.field-0.0 more ((rw (to_z-of_z w32 d.value value) at n.ensures.err) sizes (world_of f t e) book (behind_assignment e.after ++ more) st)))

pub returns-in_ok-set_number-in-SetNumber-clause-did : goal.returns-in_ok-set_number-in-SetNumber-clause-did
returns-in_ok-set_number-in-SetNumber-clause-did g c =
    let e = c.args.engine.now in let e1 = c.set_number.new.engine in let t = g.S.Sink.told c.args.out.now in let d = c.in-SetNumber in let is = c.is_global-global-in-SetNumber in
    let n = c.in_ok-set_number-in-SetNumber.ensures in let p = c.put_after-in-SetNumber in
    let value : FitsSigned w32 d.value = search rules in
    let column : e1.in_line ≡ e.in_line = search (rules, c.set_number.ensures.only) in
    let after : e1.after ≡ e.after = search (rules, c.set_number.ensures.only) in
    rw d.is
    (on_ok p.result (λ h small sizes f book st.
    behind_did sizes e e1 book f t (λ (b : Bool). Set b d.loc (val.Number d.value) ∷ [])
    is.result (is_global (page_of e book) c.args.call) (is.ensures book) column
    p.new.self p.ensures.others after ((rw (to_z-of_z w32 d.value value) at n.did) small.0 small.1 sizes (world_of f t e) book st)
    (h sizes (world_of f t e) book (counts_of sizes e1 book (n.stands sizes book st)))) p.ensures.did)

pub returns-in_ok-set_number-in-SetNumber-clause-err : goal.returns-in_ok-set_number-in-SetNumber-clause-err
returns-in_ok-set_number-in-SetNumber-clause-err g c =
    let e = c.args.engine.now in let e1 = c.set_number.new.engine in let t = g.S.Sink.told c.args.out.now in let d = c.in-SetNumber in let is = c.is_global-global-in-SetNumber in
    let n = c.in_ok-set_number-in-SetNumber.ensures in let p = c.put_after-in-SetNumber in
    let value : FitsSigned w32 d.value = search rules in
    let column : e1.in_line ≡ e.in_line = search (rules, c.set_number.ensures.only) in
    let after : e1.after ≡ e.after = search (rules, c.set_number.ensures.only) in
    rw d.is
    (err_to p.result (λ b h small sizes f book more st.
    behind_cuts sizes e e1 book f t (λ (b : Bool). Set b d.loc (val.Number d.value) ∷ [])
    is.result (is_global (page_of e book) c.args.call) (is.ensures book) column
    p.new.self p.ensures.others after ((rw (to_z-of_z w32 d.value value) at n.did) small.0 small.1 sizes (world_of f t e) book st) b more
    (h sizes (world_of f t e) book more (counts_of sizes e1 book (n.stands sizes book st)))) p.ensures.err)

pub returns-in_ok-set_number-in-SetNumber-clause-stands : goal.returns-in_ok-set_number-in-SetNumber-clause-stands
returns-in_ok-set_number-in-SetNumber-clause-stands g c = let n = c.in_ok-set_number-in-SetNumber.ensures in let p = c.put_after-in-SetNumber in let s = p.ensures in
    on_ok p.result (λ idle sizes book st. behind_stands sizes c.set_number.new.engine p.new.self book s.frames s.others s.store idle (n.stands sizes book st)) s.idle

pub returns-in_err-set_glue-in-SetGlue-clause-err : goal.returns-in_err-set_glue-in-SetGlue-clause-err
returns-in_err-set_glue-in-SetGlue-clause-err g c =
    let e = c.args.engine.now in let e1 = c.set_glue.new.engine in let t = g.S.Sink.told c.args.out.now in let d = c.in-SetGlue in let is = c.is_global-global-in-SetGlue in
    let n = c.in_err-set_glue-in-SetGlue in let r = c.from_residual-in_err-set_glue-in-SetGlue in
    let column : e1.in_line ≡ e.in_line = search (rules, c.set_glue.ensures.only) in
    rw d.is
    (same_err r.result n.field-0.0 _ r.ensures.1 (λ small sizes f book more st.
    set_cuts sizes e e1 book f t (λ (b : Bool). Set b d.loc (val.Skip d.glue) ∷ [])
    is.result (is_global (page_of e book) c.args.call) (is.ensures book) column
    n.field-0.0 more (n.ensures.err sizes (world_of f t e) book (behind_assignment e.after ++ more) st)))

pub returns-in_ok-set_glue-in-SetGlue-clause-did : goal.returns-in_ok-set_glue-in-SetGlue-clause-did
returns-in_ok-set_glue-in-SetGlue-clause-did g c =
    let e = c.args.engine.now in let e1 = c.set_glue.new.engine in let t = g.S.Sink.told c.args.out.now in let d = c.in-SetGlue in let is = c.is_global-global-in-SetGlue in
    let n = c.in_ok-set_glue-in-SetGlue.ensures in let p = c.put_after-in-SetGlue in
    let column : e1.in_line ≡ e.in_line = search (rules, c.set_glue.ensures.only) in
    let after : e1.after ≡ e.after = search (rules, c.set_glue.ensures.only) in
    rw d.is
    (on_ok p.result (λ h small sizes f book st.
    behind_did sizes e e1 book f t (λ (b : Bool). Set b d.loc (val.Skip d.glue) ∷ [])
    is.result (is_global (page_of e book) c.args.call) (is.ensures book) column
    p.new.self p.ensures.others after (n.did small.0 small.1 sizes (world_of f t e) book st)
    (h sizes (world_of f t e) book (counts_of sizes e1 book (n.stands sizes book st)))) p.ensures.did)

pub returns-in_ok-set_glue-in-SetGlue-clause-err : goal.returns-in_ok-set_glue-in-SetGlue-clause-err
returns-in_ok-set_glue-in-SetGlue-clause-err g c =
    let e = c.args.engine.now in let e1 = c.set_glue.new.engine in let t = g.S.Sink.told c.args.out.now in let d = c.in-SetGlue in let is = c.is_global-global-in-SetGlue in
    let n = c.in_ok-set_glue-in-SetGlue.ensures in let p = c.put_after-in-SetGlue in
    let column : e1.in_line ≡ e.in_line = search (rules, c.set_glue.ensures.only) in
    let after : e1.after ≡ e.after = search (rules, c.set_glue.ensures.only) in
    rw d.is
    (err_to p.result (λ b h small sizes f book more st.
    behind_cuts sizes e e1 book f t (λ (b : Bool). Set b d.loc (val.Skip d.glue) ∷ [])
    is.result (is_global (page_of e book) c.args.call) (is.ensures book) column
    p.new.self p.ensures.others after (n.did small.0 small.1 sizes (world_of f t e) book st) b more
    (h sizes (world_of f t e) book more (counts_of sizes e1 book (n.stands sizes book st)))) p.ensures.err)

pub returns-in_ok-set_glue-in-SetGlue-clause-stands : goal.returns-in_ok-set_glue-in-SetGlue-clause-stands
returns-in_ok-set_glue-in-SetGlue-clause-stands g c = let n = c.in_ok-set_glue-in-SetGlue.ensures in let p = c.put_after-in-SetGlue in let s = p.ensures in
    on_ok p.result (λ idle sizes book st. behind_stands sizes c.set_glue.new.engine p.new.self book s.frames s.others s.store idle (n.stands sizes book st)) s.idle

pub returns-in_err-share_list-in-ShareList-clause-err : goal.returns-in_err-share_list-in-ShareList-clause-err
returns-in_err-share_list-in-ShareList-clause-err g c =
    let e = c.args.engine.now in let e1 = c.share_list.new.engine in let t = g.S.Sink.told c.args.out.now in let d = c.in-ShareList in let is = c.is_global-global-in-ShareList in
    let n = c.in_err-share_list-in-ShareList in let r = c.from_residual-in_err-share_list-in-ShareList in
    let column : e1.in_line ≡ e.in_line = search (rules, c.share_list.ensures.only) in
    rw d.is
    (same_err r.result n.field-0.0 _ r.ensures.1 (λ small sizes f book more st.
    set_cuts sizes e e1 book f t (λ (b : Bool). Set b d.loc (get (page_of e book).now d.from) ∷ [])
    is.result (is_global (page_of e book) c.args.call) (is.ensures book) column
    n.field-0.0 more (n.ensures.err sizes (world_of f t e) book (behind_assignment e.after ++ more) st)))

pub returns-in_ok-share_list-in-ShareList-clause-did : goal.returns-in_ok-share_list-in-ShareList-clause-did
returns-in_ok-share_list-in-ShareList-clause-did g c =
    let e = c.args.engine.now in let e1 = c.share_list.new.engine in let t = g.S.Sink.told c.args.out.now in let d = c.in-ShareList in let is = c.is_global-global-in-ShareList in
    let n = c.in_ok-share_list-in-ShareList.ensures in let p = c.put_after-in-ShareList in
    let column : e1.in_line ≡ e.in_line = search (rules, c.share_list.ensures.only) in
    let after : e1.after ≡ e.after = search (rules, c.share_list.ensures.only) in
    rw d.is
    (on_ok p.result (λ h small sizes f book st.
    behind_did sizes e e1 book f t (λ (b : Bool). Set b d.loc (get (page_of e book).now d.from) ∷ [])
    is.result (is_global (page_of e book) c.args.call) (is.ensures book) column
    p.new.self p.ensures.others after (n.did small.0 small.1 sizes (world_of f t e) book st)
    (h sizes (world_of f t e) book (counts_of sizes e1 book (n.stands sizes book st)))) p.ensures.did)

pub returns-in_ok-share_list-in-ShareList-clause-err : goal.returns-in_ok-share_list-in-ShareList-clause-err
returns-in_ok-share_list-in-ShareList-clause-err g c =
    let e = c.args.engine.now in let e1 = c.share_list.new.engine in let t = g.S.Sink.told c.args.out.now in let d = c.in-ShareList in let is = c.is_global-global-in-ShareList in
    let n = c.in_ok-share_list-in-ShareList.ensures in let p = c.put_after-in-ShareList in
    let column : e1.in_line ≡ e.in_line = search (rules, c.share_list.ensures.only) in
    let after : e1.after ≡ e.after = search (rules, c.share_list.ensures.only) in
    rw d.is
    (err_to p.result (λ b h small sizes f book more st.
    behind_cuts sizes e e1 book f t (λ (b : Bool). Set b d.loc (get (page_of e book).now d.from) ∷ [])
    is.result (is_global (page_of e book) c.args.call) (is.ensures book) column
    p.new.self p.ensures.others after (n.did small.0 small.1 sizes (world_of f t e) book st) b more
    (h sizes (world_of f t e) book more (counts_of sizes e1 book (n.stands sizes book st)))) p.ensures.err)

pub returns-in_ok-share_list-in-ShareList-clause-stands : goal.returns-in_ok-share_list-in-ShareList-clause-stands
returns-in_ok-share_list-in-ShareList-clause-stands g c = let n = c.in_ok-share_list-in-ShareList.ensures in let p = c.put_after-in-ShareList in let s = p.ensures in
    on_ok p.result (λ idle sizes book st. behind_stands sizes c.share_list.new.engine p.new.self book s.frames s.others s.store idle (n.stands sizes book st)) s.idle

pub returns-in_err-give_meaning-in-Shorthand-clause-err : goal.returns-in_err-give_meaning-in-Shorthand-clause-err
returns-in_err-give_meaning-in-Shorthand-clause-err g c =
    let e = c.args.engine.now in let e1 = c.give_meaning.new.engine in let t = g.S.Sink.told c.args.out.now in let d = c.in-Shorthand in let is = c.is_global-global-in-Shorthand in
    let n = c.in_err-give_meaning-in-Shorthand in let r = c.from_residual-in_err-give_meaning-in-Shorthand in
    let column : e1.in_line ≡ e.in_line = search (rules, c.give_meaning.ensures.only) in
    rw d.is
    (same_err r.result n.field-0.0 _ r.ensures.1 (λ small sizes f book more st.
    set_cuts sizes e e1 book f t (λ (b : Bool). Assigned b d.name (short_meaning d.shorthand) ∷ [])
    is.result (is_global (page_of e book) c.args.call) (is.ensures book) column
    n.field-0.0 more ((rw c.short_meaning.ensures at n.ensures.err) sizes (world_of f t e) book (behind_assignment e.after ++ more) st)))

pub returns-in_ok-give_meaning-in-Shorthand-clause-did : goal.returns-in_ok-give_meaning-in-Shorthand-clause-did
returns-in_ok-give_meaning-in-Shorthand-clause-did g c =
    let e = c.args.engine.now in let e1 = c.give_meaning.new.engine in let t = g.S.Sink.told c.args.out.now in let d = c.in-Shorthand in let is = c.is_global-global-in-Shorthand in
    let n = c.in_ok-give_meaning-in-Shorthand.ensures in let p = c.put_after-in-Shorthand in
    let column : e1.in_line ≡ e.in_line = search (rules, c.give_meaning.ensures.only) in
    let after : e1.after ≡ e.after = search (rules, c.give_meaning.ensures.only) in
    rw d.is
    (on_ok p.result (λ h small sizes f book st.
    behind_did sizes e e1 book f t (λ (b : Bool). Assigned b d.name (short_meaning d.shorthand) ∷ [])
    is.result (is_global (page_of e book) c.args.call) (is.ensures book) column
    p.new.self p.ensures.others after ((rw c.short_meaning.ensures at n.did) sizes (world_of f t e) book st)
    (h sizes (world_of f t e) book (counts_of sizes e1 book (n.stands sizes book st)))) p.ensures.did)

pub returns-in_ok-give_meaning-in-Shorthand-clause-err : goal.returns-in_ok-give_meaning-in-Shorthand-clause-err
returns-in_ok-give_meaning-in-Shorthand-clause-err g c =
    let e = c.args.engine.now in let e1 = c.give_meaning.new.engine in let t = g.S.Sink.told c.args.out.now in let d = c.in-Shorthand in let is = c.is_global-global-in-Shorthand in
    let n = c.in_ok-give_meaning-in-Shorthand.ensures in let p = c.put_after-in-Shorthand in
    let column : e1.in_line ≡ e.in_line = search (rules, c.give_meaning.ensures.only) in
    let after : e1.after ≡ e.after = search (rules, c.give_meaning.ensures.only) in
    rw d.is
    (err_to p.result (λ b h small sizes f book more st.
    behind_cuts sizes e e1 book f t (λ (b : Bool). Assigned b d.name (short_meaning d.shorthand) ∷ [])
    is.result (is_global (page_of e book) c.args.call) (is.ensures book) column
    p.new.self p.ensures.others after ((rw c.short_meaning.ensures at n.did) sizes (world_of f t e) book st) b more
    (h sizes (world_of f t e) book more (counts_of sizes e1 book (n.stands sizes book st)))) p.ensures.err)

pub returns-in_ok-give_meaning-in-Shorthand-clause-stands : goal.returns-in_ok-give_meaning-in-Shorthand-clause-stands
returns-in_ok-give_meaning-in-Shorthand-clause-stands g c = let n = c.in_ok-give_meaning-in-Shorthand.ensures in let p = c.put_after-in-Shorthand in let s = p.ensures in
    on_ok p.result (λ idle sizes book st. behind_stands sizes c.give_meaning.new.engine p.new.self book s.frames s.others s.store idle (n.stands sizes book st)) s.idle

pub returns-in-Unassigned-clause-did : goal.returns-in-Unassigned-clause-did
returns-in-Unassigned-clause-did g c = let e = c.args.engine.now in let t = g.S.Sink.told c.args.out.now in let p = c.put_after-in-Unassigned in
    rw c.in-Unassigned.is
    (on_ok p.result (λ h small sizes f book st. did_still sizes (state_of e book) (state_of p.new.self book) e p.new.self f t _ p.ensures.others.in_line (h sizes (world_of f t e) book (counts_of sizes e book st))) p.ensures.did)

pub returns-in-Unassigned-clause-err : goal.returns-in-Unassigned-clause-err
returns-in-Unassigned-clause-err g c = let e = c.args.engine.now in let t = g.S.Sink.told c.args.out.now in let p = c.put_after-in-Unassigned in
    rw c.in-Unassigned.is
    (err_to p.result (λ b h small sizes f book more st. cuts_still sizes (state_of e book) e p.new.self book f t _ b p.ensures.others.in_line (h sizes (world_of f t e) book more (counts_of sizes e book st))) p.ensures.err)

pub returns-in-Unassigned-clause-stands : goal.returns-in-Unassigned-clause-stands
returns-in-Unassigned-clause-stands g c = let e = c.args.engine.now in let p = c.put_after-in-Unassigned in let s = p.ensures in
    on_ok p.result (λ idle sizes book st. behind_stands sizes e p.new.self book s.frames s.others s.store idle st) s.idle

pub returns-in-AfterGroup-clause-did : goal.returns-in-AfterGroup-clause-did
returns-in-AfterGroup-clause-did g c = let e = c.args.engine.now in let k = c.keep_for_group in let t = g.S.Sink.told c.args.out.now in
    let column : k.new.self.in_line ≡ e.in_line = search (rules, k.ensures.only) in
    rw c.in-AfterGroup.is
    (on_ok k.result (λ h small sizes f book st. did_still sizes (state_of e book) (state_of k.new.self book) e k.new.self f t _ column (h sizes (world_of f t e) book st.sound)) k.ensures.did)

pub returns-in-AfterGroup-clause-err : goal.returns-in-AfterGroup-clause-err
returns-in-AfterGroup-clause-err g c = let e = c.args.engine.now in let k = c.keep_for_group in let t = g.S.Sink.told c.args.out.now in
    let column : k.new.self.in_line ≡ e.in_line = search (rules, k.ensures.only) in
    rw c.in-AfterGroup.is
    (err_to k.result (λ b h small sizes f book more st. cuts_still sizes (state_of e book) e k.new.self book f t _ b column (h sizes (world_of f t e) book more st.sound)) k.ensures.err)

pub returns-in_default-clause-did : goal.returns-in_default-clause-did
returns-in_default-clause-did g c = let e = c.args.engine.now in let e1 = c.put_effect.new.engine in let t = g.S.Sink.told c.args.out.now in let o = c.in_default in
    on_ok c.put_effect.result (λ h small sizes f book st.
    did_still sizes (state_of e book) (state_of e1 book) e e1 f t (done_alone (page_of e book) c.args.call c.args.effect) c.put_effect.ensures.front.others.in_line
    (subst (λ (ms : List Move). Did sizes (state_of e book) (state_of e1 book) (world_of f t e) (world_of f t e) ms) (sym (put_alone (page_of e book) c.args.call c.args.effect o.not-Show o.not-ShowValue o.not-ShowNumber o.not-Let o.not-FutureLet o.not-SetNumber o.not-SetGlue o.not-ShareList o.not-Shorthand o.not-Unassigned o.not-AfterGroup o.not-AfterAssignment))
    (h small sizes (world_of f t e) book (counts_of sizes e book st)))) c.put_effect.ensures.did

pub returns-in_default-clause-err : goal.returns-in_default-clause-err
returns-in_default-clause-err g c = let e = c.args.engine.now in let e1 = c.put_effect.new.engine in let t = g.S.Sink.told c.args.out.now in let o = c.in_default in
    err_to c.put_effect.result (λ b h small sizes f book more st.
    cuts_still sizes (state_of e book) e e1 book f t (done_alone (page_of e book) c.args.call c.args.effect ++ more) b c.put_effect.ensures.front.others.in_line
    (cuts_by sizes (state_of e book) e1 book (world_of f t e) (world_of f t e) (put_by (page_of e book) c.args.effect ++ more) (done_alone (page_of e book) c.args.call c.args.effect ++ more) b
    (ap (λ (ms : List Move). ms ++ more) (put_alone (page_of e book) c.args.call c.args.effect o.not-Show o.not-ShowValue o.not-ShowNumber o.not-Let o.not-FutureLet o.not-SetNumber o.not-SetGlue o.not-ShareList o.not-Shorthand o.not-Unassigned o.not-AfterGroup o.not-AfterAssignment))
    (h sizes (world_of f t e) book more (counts_of sizes e book st)))) c.put_effect.ensures.err

pub returns-in_default-clause-stands : goal.returns-in_default-clause-stands
returns-in_default-clause-stands g c = let e = c.args.engine.now in
    on_ok c.put_effect.result (λ idle sizes book st. front_stands sizes e c.put_effect.new.engine book c.put_effect.ensures.front idle st) c.put_effect.ensures.idle
