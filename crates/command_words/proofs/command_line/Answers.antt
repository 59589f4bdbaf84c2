use Rattle.std.proofs.Common.{ap, ap₂, ◌∙◌, ◌≡◌, true}
use Rattle.std.proofs.lemmas.Result.{IfOk-weaker}
use Rattle.clap.specs.Words.{App, app_of, with_subcommand}
use Rattle.clap.specs.Simple.{app_of_fields}
use Rattle.command_words.proofs.command_line.Goals as goal

abbrev no_help_flag : App → App
no_help_flag a = record a { top = record a.top { disable_help_flag = true } }

abbrev no_help : App → App
no_help a = record a { top = record a.top { disable_help_subcommand = true } }

abbrev needs_command : App → App
needs_command a = record a { top = record a.top { subcommand_required = true } }

pub returns : goal.returns
returns c =
    let one : app_of c.disable_help_flag.result ≡ no_help_flag (app_of c.new.result) = ap app_of_fields c.disable_help_flag.ensures in
    let two : app_of c.disable_help_subcommand.result ≡ no_help (app_of c.disable_help_flag.result) = ap app_of_fields c.disable_help_subcommand.ensures in
    let three : app_of c.subcommand_required.result ≡ needs_command (app_of c.disable_help_subcommand.result) = ap app_of_fields c.subcommand_required.ensures in
    let top = three ∙ ap needs_command (two ∙ ap no_help (one ∙ ap no_help_flag c.new.ensures.app)) in
    IfOk-weaker c.subcommand.result _ _ (λ m h. h.shape c.in_ok-init.ensures.local ∙ ap₂ with_subcommand top c.in_ok-init.ensures.shape) c.subcommand.ensures
