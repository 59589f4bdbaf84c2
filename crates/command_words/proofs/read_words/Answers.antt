use Rattle.std.proofs.Common.{◌≡◌, ◌∙◌, refl, ap, sym, subst, map, string_bytes, option_map, unwrap_or, Option, Some, None, List, []}
use Rattle.std.specs.Option.{option_map_or}
use Rattle.clap.specs.Words.{Row, Text, found_of, rows_of, subcommand_of}
use Rattle.command_words.specs.Words.{command_line, init_rows}
use Rattle.command_words.specs.Taken.{IsTaken}
use Rattle.command_words.proofs.Taken.{taken}
use Rattle.command_words.proofs.read_words.Goals as goal

rows_or_none : (o : Option (Text × List Row)) → unwrap_or (option_map (λ p. p.1) o) [] ≡ option_map_or (λ p. p.1) o []
rows_or_none None = refl
rows_or_none (Some p) = refl

pub read_init-requires : goal.read_init-requires
read_init-requires c =
    let words = map string_bytes c.args.words.now in
    let entered = c.in-Some.ensures.rows ∙ ap (option_map (λ p. p.1)) c.in_ok-matches.ensures.rows in
    let rows : rows_of (found_of c.in-Some.init.now) ≡ init_rows words =
    ap (λ (o : Option (List Row)). unwrap_or o []) entered ∙ rows_or_none (subcommand_of command_line words) in
    subst IsTaken (sym rows) (taken words c.in_ok-matches.ensures.taken).1
