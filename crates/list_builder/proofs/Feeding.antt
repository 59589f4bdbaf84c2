-- What a stage makes of what is fed is what the scanner makes of it.
use Rattle.std.proofs.Common.{◌≡◌, List, [], ◌∷◌, Option, refl, sym, ap, ◌∙◌, subst}
use Rattle.std.specs.Prelude.{Result, Ok, Err, IfOk, OnErr}
use Rattle.tex_syntax.specs.declared.words.Manner.{Manner}
use Rattle.tex_defs.specs.declared.Token.{Token}
use Rattle.tex_defs.specs.declared.Full.{Full}
use Rattle.token_lists.specs.Table.{Entry}
use Rattle.plain_state.specs.Definitions.{Fed}
use Rattle.list_builder.specs.declared.ask.Ask.{Ask}
use Rattle.list_builder.specs.declared.scan.ListScan.{ListScan}
use Rattle.list_builder.specs.declared.stage.Next.{Next}
use Rattle.list_builder.specs.declared.stage.Next.TheVariants.{On, Finished}
use Rattle.list_builder.specs.declared.stage.Stage.TheVariants as stage
use Rattle.list_builder.specs.declared.stage.Step.{Step}
use Rattle.list_builder.specs.Stages.{grown, goes, goes_by}
use Rattle.list_builder.specs.Stages as stages
use Rattle.list_builder.specs.Scans.{work_in, resume, list_of, Goes, Answers, IsCutShort}

-- the list that an answer shows, before more is fed
list_shown : (n : Next) (m : Manner) (list : List Token) → list_of (goes_by n m list []) ≡ list
list_shown Finished m list = refl
list_shown (On stage.First) m list = refl
list_shown (On stage.FirstMissing) m list = refl
list_shown (On (stage.Parameters k)) m list = refl
list_shown (On (stage.Place k c)) m list = refl
list_shown (On (stage.Misnumbered k c)) m list = refl
list_shown (On (stage.Tenth k)) m list = refl
list_shown (On stage.BodyMissing) m list = refl
list_shown (On (stage.InBody b d)) m list = refl
list_shown (On (stage.Reference b d c)) m list = refl
list_shown (On (stage.Illegal b d c)) m list = refl

module _ (old new : List (Option Entry)) (s t : ListScan) (x : Fed) (step : Step) (takes : (m : Manner) (list : List Token) (fed : List Fed) → stages.resume m s.stage list (x ∷ fed) ≡ goes step m list fed) where
  pub fed_answers : (r : Result Ask Full) → IfOk r (λ answer. Goes old new s t step answer) → IfOk r (λ answer. Answers old new s t x answer)
  fed_answers (Ok answer) g = record {
    answers = g.answers ∙ sym (takes s.manner (work_in old s) []);
    sound = g.sound;
    same = λ goes_on fed. takes s.manner (work_in old s) fed ∙ g.same goes_on fed;
    listed = g.listed;
    spent = g.spent;
    owns = g.owns;
    moves = g.moves;
    kept = g.kept;
  }
  fed_answers (Err full) g = tt

  list_fed : grown step (work_in old s) ≡ list_of (resume old s (x ∷ []))
  list_fed = sym (ap list_of (takes s.manner (work_in old s) []) ∙ list_shown step.next s.manner (grown step (work_in old s)))

  pub fed_cut_short : (r : Result Ask Full) → OnErr r (IsCutShort old new s t (grown step (work_in old s))) → OnErr r (IsCutShort old new s t (list_of (resume old s (x ∷ []))))
  fed_cut_short (Ok answer) h = tt
  fed_cut_short (Err full) h = subst (λ (list : List Token). IsCutShort old new s t list) list_fed h
