use Rattle.std.proofs.Common.{rules, ap, ap₂, ◌∙◌, ◌≡◌, codes, false, ◌||◌}
use Rattle.std.proofs.lemmas.Result.{IfOk-weaker}
use Rattle.clap.specs.Words.{App, app_of, new_app, rule_of, with_rule}
use Rattle.clap.specs.declared.builder.command.Command.TheViews.{out-Command as fields_of}
use Rattle.command_words.specs.Words as spec
use Rattle.command_words.proofs.init_command.Goals as goal

pub returns-clause-shape : goal.returns-clause-shape
returns-clause-shape c =
    let file_is : rule_of c.required.result ≡ spec.required_word (codes "file") = search rules in
    let quiet_is : rule_of c.action.result ≡ spec.flag (codes "quiet") = search rules in
    let one : app_of c.in_ok-arg.field-0 ≡ with_rule (new_app (codes "init")) (spec.required_word (codes "file")) =
    c.in_ok-arg.ensures.shape (search rules) ∙ ap₂ with_rule c.new.ensures.app file_is in
    let two = c.in_ok-arg-2.ensures.shape (search rules) ∙ ap₂ with_rule one c.number_option.ensures.rule in
    let three = c.in_ok-arg-3.ensures.shape (search rules) ∙ ap₂ with_rule two c.number_option-2.ensures.rule in
    IfOk-weaker c.arg-4.result _ _ (λ m h. ap (λ (a : App). a.top) (h.shape (search rules) ∙ ap₂ with_rule three quiet_is)) c.arg-4.ensures

pub returns-clause-local : goal.returns-clause-local
returns-clause-local c =
    let one : (fields_of c.in_ok-arg.field-0).has_globals ≡ false = c.in_ok-arg.ensures.globals ∙ ap₂ (λ a b. a || b) c.new.ensures.local (search rules) in
    let two : (fields_of c.in_ok-arg-2.field-0).has_globals ≡ false = c.in_ok-arg-2.ensures.globals ∙ ap₂ (λ a b. a || b) one c.number_option.ensures.local in
    let three : (fields_of c.in_ok-arg-3.field-0).has_globals ≡ false = c.in_ok-arg-3.ensures.globals ∙ ap₂ (λ a b. a || b) two c.number_option-2.ensures.local in
    IfOk-weaker c.arg-4.result _ _ (λ m h. h.globals ∙ ap₂ (λ a b. a || b) three (search rules)) c.arg-4.ensures
