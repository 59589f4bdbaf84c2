use Rattle.std.proofs.Common.{◌≡◌, ℕ, List, [], ◌∷◌, ◌++◌, true, false, refl, sym, ap, ◌∙◌, subst}
use Rattle.std.specs.Prelude.{codes, None, Some}
use Rattle.plain_tokens.specs.Tokens.{character_codes}
use Rattle.plain_tokens.specs.Tables.{spelt_name, refused}
use Rattle.command_words.specs.Words.{has, behind_area, file_name}
use Rattle.reading_frames.specs.Views.{kept_list_of}
use Rattle.plain_machine.specs.declared.broken.Broken.TheVariants as broken
use Rattle.plain_machine.specs.States.{Spelt}
use Rattle.plain_machine.specs.Does.{Did}
use Rattle.input_state.specs.Stored.{Stored}
use Rattle.engine_state.specs.Stands.{state_of}
use Rattle.engine_state.proofs.Joining.{same_err}
use Rattle.stomach.specs.Naming.{OnlySpelt}
use Rattle.stomach.proofs.SpeltNames.{spelling_did, spelling_cuts}
use Rattle.stomach.proofs.FilesSought.{dotted, undotted, file_too_long, longer_name, spelt_twice, spelt_room}
use Rattle.stomach.proofs.files.spell_file.Goals as goal

pub returns-in_err-count-clause-err : goal.returns-in_err-count-clause-err
returns-in_err-count-clause-err c = let e = c.args.engine.now in let i = c.in_err-count in let name = character_codes (kept_list_of c.args.listed e.input.builds) in
    same_err c.from_residual.result i.field-0.0 _ c.from_residual.ensures.1
    (λ sizes w book more sound. spelling_cuts sizes e c.spell_list.new.engine book c.spell_list.ensures.only (file_name name) w sound more i.field-0.0 (file_too_long e name i.field-0.0 i.ensures.full))

-- it has an extension

pub returns-then-has_extension-clause-did : goal.returns-then-has_extension-clause-did
returns-then-has_extension-clause-did c =
    let e = c.args.engine.now in let e1 = c.spell_list.new.engine in let k = c.in_ok-count.ensures in let name = character_codes (kept_list_of c.args.listed e.input.builds) in
    let is : has 46 (behind_area name) ≡ true = ap (λ (cs : List ℕ). has 46 (behind_area cs)) (sym k.codes ∙ sym c.spelt.ensures) ∙ (sym c.has_extension.ensures ∙ c.if-has_extension.true) in
    λ sizes w book sound. subst (λ (n : List ℕ). Did sizes (state_of e book) (state_of e1 book) w w (Spelt n ∷ [])) (sym (dotted name is)) (k.did sizes w book sound)

pub returns-then-has_extension-clause-name : goal.returns-then-has_extension-clause-name
returns-then-has_extension-clause-name c =
    let e = c.args.engine.now in let k = c.in_ok-count.ensures in let name = character_codes (kept_list_of c.args.listed e.input.builds) in
    let is : has 46 (behind_area name) ≡ true = ap (λ (cs : List ℕ). has 46 (behind_area cs)) (sym k.codes ∙ sym c.spelt.ensures) ∙ (sym c.has_extension.ensures ∙ c.if-has_extension.true) in
    k.codes ∙ sym (dotted name is)

-- it gets one

pub returns-in_err-spell_on-clause-err : goal.returns-in_err-spell_on-clause-err
returns-in_err-spell_on-clause-err c =
    let e = c.args.engine.now in let e1 = c.spell_list.new.engine in let e2 = record e1 { input = c.spell_on.new.self } in let k = c.in_ok-count in let name = character_codes (kept_list_of c.args.listed e.input.builds) in
    let is : has 46 (behind_area name) ≡ false = ap (λ (cs : List ℕ). has 46 (behind_area cs)) (sym k.ensures.codes ∙ sym c.spelt.ensures) ∙ (sym c.has_extension.ensures ∙ c.if-has_extension.false) in
    let only : OnlySpelt e e2 = spelt_twice e e1 e2 c.spell_list.ensures.only (ap (λ (x : Stored). record e1 { input = x }) c.spell_on.ensures.others) in
    let i = c.in_err-spell_on in
    same_err c.from_residual-in_err-spell_on.result (broken.Full i.field-0.0) _ c.from_residual-in_err-spell_on.ensures.1
    (λ sizes w book more sound. spelling_cuts sizes e e2 book only (file_name name) w sound more (broken.Full i.field-0.0)
    (record {
      full = i.field-0.0;
      is = refl;
      refuses =
          ap (λ (n : List ℕ). refused e.input.sizes (spelt_name n e.input.pending ∷ [])) (undotted name is)
          ∙ longer_name e e1 name (codes ".tex") k.count (Some i.field-0.0) c.spell_list.ensures.only k.ensures.length i.ensures.refused;
    }))

pub returns-clause-did : goal.returns-clause-did
returns-clause-did c =
    let e = c.args.engine.now in let e1 = c.spell_list.new.engine in let e2 = record e1 { input = c.spell_on.new.self } in let k = c.in_ok-count in let name = character_codes (kept_list_of c.args.listed e.input.builds) in
    let is : has 46 (behind_area name) ≡ false = ap (λ (cs : List ℕ). has 46 (behind_area cs)) (sym k.ensures.codes ∙ sym c.spelt.ensures) ∙ (sym c.has_extension.ensures ∙ c.if-has_extension.false) in
    let only : OnlySpelt e e2 = spelt_twice e e1 e2 c.spell_list.ensures.only (ap (λ (x : Stored). record e1 { input = x }) c.spell_on.ensures.others) in
    let n = c.in_ok-spell_on.ensures in
    λ sizes w book sound. spelling_did sizes e e2 book only (file_name name) w sound
    (ap (λ (m : List ℕ). refused e.input.sizes (spelt_name m e.input.pending ∷ [])) (undotted name is)
    ∙ longer_name e e1 name (codes ".tex") k.count None c.spell_list.ensures.only k.ensures.length n.refused)

pub returns-clause-name : goal.returns-clause-name
returns-clause-name c =
    let e = c.args.engine.now in let k = c.in_ok-count in let name = character_codes (kept_list_of c.args.listed e.input.builds) in
    let is : has 46 (behind_area name) ≡ false = ap (λ (cs : List ℕ). has 46 (behind_area cs)) (sym k.ensures.codes ∙ sym c.spelt.ensures) ∙ (sym c.has_extension.ensures ∙ c.if-has_extension.false) in
    c.in_ok-spell_on.ensures.ok.1 ∙ (ap (λ (cs : List ℕ). cs ++ codes ".tex") k.ensures.codes ∙ sym (undotted name is))

pub returns-clause-room : goal.returns-clause-room
returns-clause-room c = spelt_room c.args.engine.now c.spell_list.new.engine c.in_ok-spell_on.field-0 c.spell_list.ensures.only c.in_ok-spell_on.ensures.room

pub returns-clause-only : goal.returns-clause-only
returns-clause-only c =
    let e = c.args.engine.now in let e1 = c.spell_list.new.engine in let e2 = record e1 { input = c.spell_on.new.self } in
    spelt_twice e e1 e2 c.spell_list.ensures.only (ap (λ (x : Stored). record e1 { input = x }) c.spell_on.ensures.others)
