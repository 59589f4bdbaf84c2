-- By induction over the characters.
use Rattle.std.proofs.Common.{Bool, true, false, List, [], ◌∷◌, ◌++◌, Option, Some, None, refl, ap, subst, append_assoc}
use Rattle.std.proofs.lemmas.List.{append-nil}
use Rattle.std.specs.Prelude.{if◌then◌else◌}
use Rattle.tex_defs.specs.declared.Token.{Token}
use Rattle.tex_syntax.specs.declared.words.Want.{Want}
use Rattle.tex_syntax.specs.declared.words.Want.TheVariants.{Expanded, Nonblank}
use Rattle.rows.specs.declared.command.Call.{Call}
use Rattle.rows.specs.Tokens.{is_character}
use Rattle.rows.specs.Readings.{Fed, Tok, Noted}
use Rattle.rows.specs.Commands.{CommandAsk, command_ask}
use Rattle.plain_readings.specs.Spelling.{is_endcsname, makes, endcsname_missing, spelling, characters}
use Rattle.plain_readings.specs.FileNames.{character_meant, is_blank, opens, named_on, file_naming, character_before, file_characters}
use Rattle.plain_readings.specs.Laws.{Spells}
use Rattle.plain_readings.proofs.laws.names_are_held.Goals as goal

-- behind these characters
abbrev Held : Call → (held : List Token) → CommandAsk → Type 0
Held c held a = Spells c (held ∷ []) (command_ask a)

made : (c : Call) (ts : List Token) → Held c (ts ++ []) (makes c ts)
made c ts = (refl, ap (λ (us : List Token). us ∷ []) (append-nil ts))

missing : (c : Call) (ts : List Token) (fed : List Fed) → Held c (ts ++ []) (endcsname_missing c ts fed)
missing c ts [] = tt
missing c ts (Noted ∷ fed) = made c ts
missing c ts (y ∷ fed) = tt

either : (b : Bool) (c : Call) (held : List Token) (p q : CommandAsk) → Held c held p → Held c held q → Held c held (if b then p else q)
either true c held p q h i = h
either false c held p q h i = i

met : (b : Bool) (c : Call) (ts us : List Token) (t : Token) (p q : CommandAsk) → Held c ((ts ++ t ∷ []) ++ us) p → Held c (ts ++ []) q → Held c (ts ++ (if b then t ∷ us else [])) (if b then p else q)
met true c ts us t p q h i = subst (λ (held : List Token). Held c held p) (append_assoc ts (t ∷ []) us) h
met false c ts us t p q h i = i

spelt : (c : Call) (ts : List Token) (fed : List Fed) → Held c (ts ++ characters fed) (spelling c ts fed)
spelt c ts [] = tt
spelt c ts (Tok x ∷ fed) =
    met (is_character x.token) c ts (characters fed) x.token _ _ (spelt c (ts ++ x.token ∷ []) fed)
    (either (is_endcsname x) c (ts ++ []) _ _ (made c ts) (missing c ts fed))
spelt c ts (y ∷ fed) = tt

-- THE NAME OF A FILE

opened : (c : Call) (back : Bool) (ts : List Token) → Held c (ts ++ []) (opens c back ts)
opened c back ts = (refl, ap (λ (us : List Token). us ∷ []) (append-nil ts))

blank : (b : Bool) (c : Call) (ts us : List Token) (t : Token) (p q : CommandAsk) → Held c (ts ++ []) p → Held c ((ts ++ t ∷ []) ++ us) q → Held c (ts ++ (if b then [] else t ∷ us)) (if b then p else q)
blank true c ts us t p q h i = h
blank false c ts us t p q h i = subst (λ (held : List Token). Held c held q) (append_assoc ts (t ∷ []) us) i

meant : (o : Option Token) (c : Call) (ts us : List Token) (longer : List Token → CommandAsk) → ((vs : List Token) → Held c (vs ++ us) (longer vs)) →
    Held c (ts ++ character_before o us) (named_on c ts o longer)
meant None c ts us longer h = opened c true ts
meant (Some t) c ts us longer h = blank (is_blank t) c ts us t _ _ (opened c false ts) (h (ts ++ t ∷ []))

named : (c : Call) (want : Want) (ts : List Token) (fed : List Fed) → Held c (ts ++ file_characters fed) (file_naming c want ts fed)
named c want ts [] = tt
named c want ts (Tok x ∷ fed) = meant (character_meant x.meaning) c ts (file_characters fed) (λ us. file_naming c Expanded us fed) (λ us. named c Expanded us fed)
named c want ts (y ∷ fed) = tt

pub returns : goal.returns
returns _ = record { names = λ c fed. spelt c [] fed; files = λ c fed. named c Nonblank [] fed }
