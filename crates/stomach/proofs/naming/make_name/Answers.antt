use Rattle.std.proofs.Common.{◌++◌}
use Rattle.tex_defs.specs.declared.Token.TheVariants.{Named}
use Rattle.plain_tokens.specs.Tokens.{character_codes}
use Rattle.reading_frames.specs.Views.{kept_list_of}
use Rattle.plain_machine.specs.declared.broken.Broken.TheVariants as broken
use Rattle.plain_machine.specs.Plan.{put_one}
use Rattle.input_state.specs.Stored.{spelt}
use Rattle.engine_state.specs.Stands.{page_of}
use Rattle.engine_state.proofs.Counting.{counts_of}
use Rattle.gullet.proofs.JobName.{name_stands}
use Rattle.engine_state.proofs.Joining.{same_err}
use Rattle.stomach.proofs.SpeltNames.{spelt_stands, made_behind, unentered_cuts, entered_stands, made_did, unmade_cuts, unput_cuts, name_did, name_cuts}
use Rattle.stomach.proofs.naming.make_name.Goals as goal

pub returns-in_err-count-clause-err : goal.returns-in_err-count-clause-err
returns-in_err-count-clause-err c =
    let e = c.args.engine.now in let codes = character_codes (kept_list_of c.args.listed e.input.builds) in let i = c.in_err-count in
    same_err c.from_residual.result i.field-0.0 _ c.from_residual.ensures.1
    (λ sizes w book more st. i.ensures.err sizes w book (made_behind (page_of e book) codes ++ more) st.sound)

pub returns-in_err-name-clause-err : goal.returns-in_err-name-clause-err
returns-in_err-name-clause-err c =
    let e = c.args.engine.now in let e0 = c.spell_list.new.engine in let e1 = c.enter_spelt.new.engine in
    let codes = character_codes (kept_list_of c.args.listed e.input.builds) in let k = c.in_ok-count in let own = spelt e0.input k.count in let only = c.spell_list.ensures.only in
    let i = c.in_err-name in
    same_err c.from_residual-in_err-name.result (broken.Full i.field-0.0) _ c.from_residual-in_err-name.ensures.1
    (λ sizes w book more st.
    let st0 = spelt_stands sizes e e0 book only st in
    name_cuts sizes e e0 book w only codes own k.ensures.codes (k.ensures.did sizes w book st.sound) e1 more (broken.Full i.field-0.0)
    (unentered_cuts sizes e0 e1 book own w more i.field-0.0 st0.sound.sized i.ensures.err (i.ensures.refused sizes book st0.sound)))

pub returns-in_err-relax_if_undefined-clause-err : goal.returns-in_err-relax_if_undefined-clause-err
returns-in_err-relax_if_undefined-clause-err c =
    let e = c.args.engine.now in let e0 = c.spell_list.new.engine in let e1 = c.enter_spelt.new.engine in
    let codes = character_codes (kept_list_of c.args.listed e.input.builds) in let k = c.in_ok-count in let own = spelt e0.input k.count in let only = c.spell_list.ensures.only in
    let e2 = c.relax_if_undefined.new.engine in let i = c.in_err-relax_if_undefined in let n = c.in_ok-name in
    same_err c.from_residual-in_err-relax_if_undefined.result i.field-0.0 _ c.from_residual-in_err-relax_if_undefined.ensures.1
    (λ sizes w book more st.
    let st0 = spelt_stands sizes e e0 book only st in let after = n.ensures.after sizes book st0.sound in
    name_cuts sizes e e0 book w only codes own k.ensures.codes (k.ensures.did sizes w book st.sound) e2 more i.field-0.0
    (unmade_cuts sizes e0 e1 book own n.name w st0.sound.sized after (n.ensures.fits sizes book st0.sound) (n.ensures.name sizes book st0.sound)
    e2 more i.field-0.0 (i.ensures.err sizes w book (put_one (Named n.name) ++ more) (entered_stands sizes e0 e1 book own after st0))))

pub returns-in_err-put_one-clause-err : goal.returns-in_err-put_one-clause-err
returns-in_err-put_one-clause-err c =
    let e = c.args.engine.now in let e0 = c.spell_list.new.engine in let e1 = c.enter_spelt.new.engine in
    let codes = character_codes (kept_list_of c.args.listed e.input.builds) in let k = c.in_ok-count in let own = spelt e0.input k.count in let only = c.spell_list.ensures.only in
    let e2 = c.relax_if_undefined.new.engine in let e3 = c.put_one.new.self in let i = c.in_err-put_one in let n = c.in_ok-name in
    same_err c.from_residual-in_err-put_one.result i.field-0.0 _ c.from_residual-in_err-put_one.ensures.1
    (λ sizes w book more st.
    let st0 = spelt_stands sizes e e0 book only st in let after = n.ensures.after sizes book st0.sound in
    let st1 = entered_stands sizes e0 e1 book own after st0 in let st2 = c.in_ok-relax_if_undefined.ensures.stands sizes book st1 in
    name_cuts sizes e e0 book w only codes own k.ensures.codes (k.ensures.did sizes w book st.sound) e3 more i.field-0.0
    (unput_cuts sizes e0 e1 book own n.name w st0.sound.sized after (n.ensures.fits sizes book st0.sound) (n.ensures.name sizes book st0.sound)
    e2 (c.in_ok-relax_if_undefined.ensures.did sizes w book st1) e3 more i.field-0.0 (i.ensures.err sizes w book more (counts_of sizes e2 book st2) st2.idle)))

pub returns-clause-did : goal.returns-clause-did
returns-clause-did c =
    let e = c.args.engine.now in let e0 = c.spell_list.new.engine in let e1 = c.enter_spelt.new.engine in
    let codes = character_codes (kept_list_of c.args.listed e.input.builds) in let k = c.in_ok-count in let own = spelt e0.input k.count in let only = c.spell_list.ensures.only in
    let e2 = c.relax_if_undefined.new.engine in let e3 = c.put_one.new.self in let n = c.in_ok-name in
    λ sizes w book st.
    let st0 = spelt_stands sizes e e0 book only st in let after = n.ensures.after sizes book st0.sound in
    let st1 = entered_stands sizes e0 e1 book own after st0 in let st2 = c.in_ok-relax_if_undefined.ensures.stands sizes book st1 in
    name_did sizes e e0 book w only codes own k.ensures.codes (k.ensures.did sizes w book st.sound) e3
    (made_did sizes e0 e1 book own n.name w st0.sound.sized after (n.ensures.fits sizes book st0.sound) (n.ensures.name sizes book st0.sound)
    e2 (c.in_ok-relax_if_undefined.ensures.did sizes w book st1) e3 (c.in_ok-put_one.ensures.did sizes w book (counts_of sizes e2 book st2) st2.idle))

pub returns-clause-stands : goal.returns-clause-stands
returns-clause-stands c =
    let e = c.args.engine.now in let e0 = c.spell_list.new.engine in let e1 = c.enter_spelt.new.engine in let e2 = c.relax_if_undefined.new.engine in let p = c.put_one.ensures in
    λ sizes book st.
    let st0 = spelt_stands sizes e e0 book c.spell_list.ensures.only st in
    let st1 = entered_stands sizes e0 e1 book (spelt e0.input c.in_ok-count.count) (c.in_ok-name.ensures.after sizes book st0.sound) st0 in
    name_stands sizes e2 c.put_one.new.self book p.frames p.others p.store c.in_ok-put_one.ensures.idle (c.in_ok-relax_if_undefined.ensures.stands sizes book st1)
