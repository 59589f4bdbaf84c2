use Rattle.std.proofs.Common.{[], ◌∷◌, ◌∙◌}
use Rattle.rows.specs.Readings.{Tok, Noted}
use Rattle.scan_numbers.specs.Laws.{spelt}
use Rattle.scan_numbers.proofs.Spelt.{all, ended, too_big_at, drops, dropped}
use Rattle.scan_numbers.proofs.laws.digits_are_read.Goals as goal

pub returns : goal.returns
returns c = record {
  read = λ negative d ds n x s e. all negative d ds n (Tok x ∷ []) s ∙ ended negative n x e;
  reported = λ negative ds n d b. too_big_at negative ds n d [] b;
  reported_once = λ negative ds n d more b are. too_big_at negative ds n d (Noted ∷ spelt more []) b ∙ drops negative more [] are;
  greatest = λ negative ds n d more x b are e.
      too_big_at negative ds n d (Noted ∷ spelt more (Tok x ∷ [])) b ∙ (drops negative more (Tok x ∷ []) are ∙ dropped negative x e);
}
