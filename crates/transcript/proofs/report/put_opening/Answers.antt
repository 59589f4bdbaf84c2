use Rattle.std.proofs.Common.{ap, sym, ◌∙◌, ℤ, w32, FitsSigned, rules}
use Rattle.std.proofs.lemmas.Int.{to_z-of_z}
use Rattle.tex_syntax.specs.declared.words.Report.TheVariants.{BadCharacterCode, BadRegisterCode, BadMathchar, IncompatibleMagnification, IllegalMagnification, InvalidCode, CodeTooGreat}
use Rattle.token_show.specs.Views.{style_of}
use Rattle.transcript.proofs.Texts.{opening_by}
use Rattle.transcript.proofs.report.put_opening.Goals as goal

pub returns-in-BadCharacterCode : goal.returns-in-BadCharacterCode
returns-in-BadCharacterCode c = let r : FitsSigned w32 c.args.view.names.newline = search rules in let n = c.in-BadCharacterCode.n in
    let rn : FitsSigned w32 n = search rules in
    opening_by (style_of c.args.view) c.args.report _ _ c.args.text.now c.put_bad_code.new.text (c.in-BadCharacterCode.is ∙ ap (λ (m : ℤ). BadCharacterCode m) (sym (to_z-of_z w32 n rn))) (to_z-of_z w32 c.args.view.names.newline r)
    (c.put_bad_code.ensures (style_of c.args.view))

pub returns-in-BadRegisterCode : goal.returns-in-BadRegisterCode
returns-in-BadRegisterCode c = let r : FitsSigned w32 c.args.view.names.newline = search rules in let n = c.in-BadRegisterCode.n in
    let rn : FitsSigned w32 n = search rules in
    opening_by (style_of c.args.view) c.args.report _ _ c.args.text.now c.put_bad_register.new.text (c.in-BadRegisterCode.is ∙ ap (λ (m : ℤ). BadRegisterCode m) (sym (to_z-of_z w32 n rn))) (to_z-of_z w32 c.args.view.names.newline r)
    (c.put_bad_register.ensures (style_of c.args.view))

pub returns-in-BadMathchar : goal.returns-in-BadMathchar
returns-in-BadMathchar c = let r : FitsSigned w32 c.args.view.names.newline = search rules in let n = c.in-BadMathchar.n in
    let rn : FitsSigned w32 n = search rules in
    opening_by (style_of c.args.view) c.args.report _ _ c.args.text.now c.put_bad_mathchar.new.text (c.in-BadMathchar.is ∙ ap (λ (m : ℤ). BadMathchar m) (sym (to_z-of_z w32 n rn))) (to_z-of_z w32 c.args.view.names.newline r)
    (c.put_bad_mathchar.ensures (style_of c.args.view))

pub returns-in-IncompatibleMagnification : goal.returns-in-IncompatibleMagnification
returns-in-IncompatibleMagnification c = let r : FitsSigned w32 c.args.view.names.newline = search rules in let n = c.in-IncompatibleMagnification.n in
    let rn : FitsSigned w32 n = search rules in let earlier = c.in-IncompatibleMagnification.field-1 in
    opening_by (style_of c.args.view) c.args.report _ _ c.args.text.now c.put_incompatible_magnification.new.text (c.in-IncompatibleMagnification.is ∙ ap (λ (m : ℤ). IncompatibleMagnification m earlier) (sym (to_z-of_z w32 n rn))) (to_z-of_z w32 c.args.view.names.newline r)
    (c.put_incompatible_magnification.ensures (style_of c.args.view) earlier)

pub returns-in-IllegalMagnification : goal.returns-in-IllegalMagnification
returns-in-IllegalMagnification c = let r : FitsSigned w32 c.args.view.names.newline = search rules in let n = c.in-IllegalMagnification.n in
    let rn : FitsSigned w32 n = search rules in
    opening_by (style_of c.args.view) c.args.report _ _ c.args.text.now c.put_illegal_magnification.new.text (c.in-IllegalMagnification.is ∙ ap (λ (m : ℤ). IllegalMagnification m) (sym (to_z-of_z w32 n rn))) (to_z-of_z w32 c.args.view.names.newline r)
    (c.put_illegal_magnification.ensures (style_of c.args.view))

pub returns-in-InvalidCode : goal.returns-in-InvalidCode
returns-in-InvalidCode c = let r : FitsSigned w32 c.args.view.names.newline = search rules in let n = c.in-InvalidCode.n in
    let rn : FitsSigned w32 n = search rules in
    opening_by (style_of c.args.view) c.args.report _ _ c.args.text.now c.put_invalid_code.new.text (c.in-InvalidCode.is ∙ ap (λ (m : ℤ). InvalidCode m c.in-InvalidCode.greatest) (sym (to_z-of_z w32 n rn))) (to_z-of_z w32 c.args.view.names.newline r)
    (c.put_invalid_code.ensures (style_of c.args.view))

pub returns-in-CodeTooGreat : goal.returns-in-CodeTooGreat
returns-in-CodeTooGreat c = let r : FitsSigned w32 c.args.view.names.newline = search rules in let n = c.in-CodeTooGreat.n in
    let rn : FitsSigned w32 n = search rules in
    opening_by (style_of c.args.view) c.args.report _ _ c.args.text.now c.put_great_code.new.text (c.in-CodeTooGreat.is ∙ ap (λ (m : ℤ). CodeTooGreat m c.in-CodeTooGreat.greatest) (sym (to_z-of_z w32 n rn))) (to_z-of_z w32 c.args.view.names.newline r)
    (c.put_great_code.ensures (style_of c.args.view))
