-- A reading that a stage begins with a token is of a low rank.
use Rattle.std.proofs.Common.{◌<◌, Bool, true, false, if◌then◌else◌, Option, Some, None, arith}
use Rattle.std.specs.Prelude.{◌||◌}
use Rattle.tex_defs.specs.declared.Token.{Token}
use Rattle.tex_defs.specs.declared.Name.{Name}
use Rattle.tex_defs.specs.declared.Seen.{Seen}
use Rattle.plain_tokens.specs.Tokens.{is_space, is_space_token}
use Rattle.plain_tokens.specs.Names.{means_relax}
use Rattle.rows.specs.declared.words.Phrase.{Phrase}
use Rattle.rows.specs.declared.words.Phrase.TheVariants as phrase
use Rattle.rows.specs.declared.words.Relation.{Relation as Relative}
use Rattle.rows.specs.declared.internal.Internal.{Internal}
use Rattle.rows.specs.declared.internal.Internal.TheVariants as internal
use Rattle.rows.specs.declared.stage.Stage.{Stage}
use Rattle.rows.specs.declared.stage.Stage.TheVariants.{Equals, ControlSequence, NewName, Variable, InternalValue, TokenList, LetEquals, Space, Relation, Prefixes}
use Rattle.rows.specs.declared.stage.Met.{Met}
use Rattle.rows.specs.declared.stage.Met.TheVariants as met
use Rattle.rows.specs.declared.stage.Next.TheVariants as next
use Rattle.rows.specs.declared.command.Call.{Call}
use Rattle.rows.specs.declared.command.Prefix.{Prefix}
use Rattle.rows.specs.Tokens.{is_equals, name_to_assign}
use Rattle.rows.specs.Internal.{variable_of, list_of, value_of}
use Rattle.rows.specs.Stages.{nothing, named, newly_named, internal_met, unusable, unusable_behind, the_primitive, relation_of, related, also, prefix_of, is_definition, is_assignment, as_command, limit_refused, behind_prefixes, prefixed, on_token}
use Rattle.rows.specs.Laws.{rank}

abbrev pub IsLow : Phrase → Type 0
IsLow k = rank k < 1

abbrev pub MetLow : Met → Type 0
MetLow (met.Begins k) = IsLow k
MetLow m = Unit {0}

met_if : (b : Bool) (m n : Met) → MetLow m → MetLow n → MetLow (if b then m else n)
met_if true m n h i = h
met_if false m n h i = i

named_low : (t : Token) (o : Option Name) → MetLow (named t o)
named_low t (Some n) = tt
named_low t None = tt

newly_named_low : (c : Call) (t : Token) (o : Option Name) → MetLow (newly_named c t o)
newly_named_low c t (Some n) = tt
newly_named_low c t None = tt

internal_low : (m : Met) (stands : Option Internal) → MetLow m → MetLow (internal_met m stands)
internal_low m (Some (internal.Given n)) low = tt
internal_low m (Some (internal.At l)) low = tt
internal_low m (Some (internal.Numbered b)) low = tt
internal_low m None low = low

related_low : (c : Call) (o : Option Relative) → MetLow (related c o)
related_low c (Some r) = tt
related_low c None = tt

behind_prefixes_low : (c : Call) (x : Seen) → MetLow (behind_prefixes c x)
behind_prefixes_low c x =
    met_if (is_definition x.meaning) _ _ tt
    (met_if (is_assignment x.meaning) _ _ (met_if (c.long || c.outer) (limit_refused c x) (met.Becomes (as_command c x)) tt tt) tt)

prefixed_low : (c : Call) (o : Option Prefix) (x : Seen) → MetLow (prefixed c o x)
prefixed_low c (Some p) x = tt
prefixed_low c None x = behind_prefixes_low c x

pub token_low : (s : Stage) (c : Call) (x : Seen) → MetLow (on_token s c x)
token_low Equals c x = met_if (is_equals x) met.Passes met.Leaves tt tt
token_low ControlSequence c x = met_if (is_space_token x.token) (met.Skips c) (named x.token (name_to_assign x.token)) tt (named_low x.token (name_to_assign x.token))
token_low NewName c x = met_if (is_space_token x.token) (met.Skips c) (newly_named c x.token (name_to_assign x.token)) tt (newly_named_low c x.token (name_to_assign x.token))
token_low Variable c x = internal_low (met.Notes (unusable c x) (next.Unassigned c)) (variable_of x.meaning) tt
token_low InternalValue c x = internal_low (met.Notes (unusable_behind the_primitive x) (next.Takes nothing)) (value_of x.meaning) tt
token_low TokenList c x =
    met_if (means_relax x.meaning) (met.Skips c) (internal_met (met.Begins (phrase.Text c.name false)) (list_of x.meaning)) tt
    (internal_low (met.Begins (phrase.Text c.name false)) (list_of x.meaning) (omega arith))
token_low LetEquals c x = met_if (is_space x) (met.Skips c) (if is_equals x then met.Passes else met.Leaves) tt (met_if (is_equals x) met.Passes met.Leaves tt tt)
token_low Space c x = met_if (is_space x) met.Passes met.Leaves tt tt
token_low Relation c x = related_low c (relation_of x.token)
token_low (Prefixes p) c x = prefixed_low (also p c) (prefix_of x.meaning) x
token_low s c x = tt
