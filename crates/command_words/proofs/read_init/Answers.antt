use Rattle.std.proofs.Common.{◌≡◌, ◌∙◌, codes, ap, ap₂, sym, arith}
use Rattle.std.specs.Str.Parse.{ParsesUnsigned, ExplainsUnsignedError, HasUnsignedDigitsIfOk}
use Rattle.clap.specs.Words.{found_of, rows_of}
use Rattle.command_words.specs.Words as spec
use Rattle.command_words.proofs.Getters.{flag_read, in_range, number_read, text_read}
use Rattle.command_words.proofs.read_init.Goals as goal

pub overflow_cast-main_memory_size : goal.overflow_cast-main_memory_size
overflow_cast-main_memory_size c =
    let mem = number_read (λ bs r. ParsesUnsigned 64 10 bs r × ExplainsUnsignedError 10 bs r × HasUnsignedDigitsIfOk bs r) 100 16777216 (found_of c.args.init.now) (codes "mem")
    c.get_one-2.result c.unwrap_or-main_memory_size.result c.get_one-2.ensures.value (λ u x g. g.0) c.requires.mem c.unwrap_or-main_memory_size.ensures in
    let most = mem.2 in
    omega arith

pub returns-clause-command : goal.returns-clause-command
returns-clause-command c =
    let rows = rows_of (found_of c.args.init.now) in
    let file = text_read (found_of c.args.init.now) (codes "file") _ c.get_str.result _ c.unwrap_or-file.result c.get_str.ensures c.requires.file c.unwrap_or-file.ensures in
    let steps = number_read (λ bs r. ParsesUnsigned 64 10 bs r × ExplainsUnsignedError 10 bs r × HasUnsignedDigitsIfOk bs r) 0 1000000000000000 (found_of c.args.init.now) (codes "steps")
    c.get_one.result c.unwrap_or-steps.result c.get_one.ensures.value (λ u x g. g.0) c.requires.steps c.unwrap_or-steps.ensures in
    let mem = number_read (λ bs r. ParsesUnsigned 64 10 bs r × ExplainsUnsignedError 10 bs r × HasUnsignedDigitsIfOk bs r) 100 16777216 (found_of c.args.init.now) (codes "mem")
    c.get_one-2.result c.unwrap_or-main_memory_size.result c.get_one-2.ensures.value (λ u x g. g.0) c.requires.mem c.unwrap_or-main_memory_size.ensures in
    let quiet = flag_read (found_of c.args.init.now) (codes "quiet") c.get_flag-quiet.result c.get_flag-quiet.ensures.value c.get_flag-quiet.ensures.other c.requires.quiet in
    let options : spec.options_of rows ≡ record { steps = c.unwrap_or-steps.result; main_memory_size = c.unwrap_or-main_memory_size.result; quiet = c.get_flag-quiet.result } =
    λ i. record { steps = sym steps.0 i; main_memory_size = sym mem.0 i; quiet = sym quiet i } in
    let name : spec.file_name (spec.text_of (codes "file") rows) ≡ c.in_ok-file.file.items = sym (c.in_ok-file.ensures ∙ ap spec.file_name (c.as_bytes.ensures.value ∙ file)) in
    ap₂ spec.Init name options

pub returns-clause-size : goal.returns-clause-size
returns-clause-size c =
    let mem = number_read (λ bs r. ParsesUnsigned 64 10 bs r × ExplainsUnsignedError 10 bs r × HasUnsignedDigitsIfOk bs r) 100 16777216 (found_of c.args.init.now) (codes "mem")
    c.get_one-2.result c.unwrap_or-main_memory_size.result c.get_one-2.ensures.value (λ u x g. g.0) c.requires.mem c.unwrap_or-main_memory_size.ensures in
    in_range 100 16777216 c.unwrap_or-main_memory_size.result mem.1 mem.2
