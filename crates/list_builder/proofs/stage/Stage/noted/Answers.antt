use Rattle.std.proofs.Common.{◌≡◌, ◌+◌, ◌≤◌, ℕ, List, ◌∷◌, None, Some, refl, sym, subst, arith}
use Rattle.tex_syntax.specs.declared.words.Manner.{Manner}
use Rattle.tex_defs.specs.declared.Token.{Token}
use Rattle.tex_defs.specs.declared.Token.TheVariants as token
use Rattle.plain_state.specs.declared.body.Body.{Body}
use Rattle.plain_state.specs.Definitions.{Fed, Noted}
use Rattle.list_builder.specs.declared.stage.Next.TheVariants.{On, Finished}
use Rattle.list_builder.specs.declared.stage.Stage.{Stage}
use Rattle.list_builder.specs.declared.stage.Stage.TheVariants.{First, FirstMissing, Parameters, Place, Misnumbered, Tenth, BodyMissing, InBody, Reference, Illegal}
use Rattle.list_builder.specs.declared.stage.Step.{Step}
use Rattle.list_builder.specs.Stages.{resume, depth_of, TellsNext, goes, depth_after, growth}
use Rattle.list_builder.proofs.stage.Stage.noted.Goals as goal

-- a stage comes to this step once the report was written
record Comes (s : Stage) (r : Step) : Type 0 where
  takes : (m : Manner) (list : List Token) (fed : List Fed) → resume m s list (Noted ∷ fed) ≡ goes r m list fed
  shallow : depth_after r.next ≤ depth_of s + growth r
  no_deeper : depth_after r.next ≤ depth_of s
  one : r.second ≡ None
  quiet : TellsNext r.next → ⊥

abbrev to : Stage → Step
to s = record { first = None; second = None; next = On s }

abbrev with : Token → Stage → Step
with t s = record { first = Some t; second = None; next = On s }

equal : (s s' : Stage) (r r' : Step) → s ≡ s' → r ≡ r' → Comes s' r' → Comes s r
equal s s' r r' e f h = subst (λ (q : Stage). Comes q r) (sym e) (subst (λ (q : Step). Comes s' q) (sym f) h)

missing : Comes FirstMissing (to (InBody (record { places = None; brace = None }) 0))
missing = record { takes = λ m list fed. refl; shallow = omega arith; no_deeper = omega arith; one = refl; quiet = λ h. h }

misnumbered : (count character : ℕ) → Comes (Misnumbered count character) (with (token.Place character) (Parameters count))
misnumbered count character = record { takes = λ m list fed. refl; shallow = omega arith; no_deeper = omega arith; one = refl; quiet = λ h. h }

tenth : (count : ℕ) → Comes (Tenth count) (to (Parameters count))
tenth count = record { takes = λ m list fed. refl; shallow = omega arith; no_deeper = omega arith; one = refl; quiet = λ h. h }

body_missing : Comes BodyMissing (record { first = None; second = None; next = Finished })
body_missing = record { takes = λ m list fed. refl; shallow = omega arith; no_deeper = omega arith; one = refl; quiet = λ h. h }

illegal : (b : Body) (depth : ℕ) (character : Token) → Comes (Illegal b depth character) (with character (InBody b depth))
illegal b depth character = record { takes = λ m list fed. refl; shallow = omega arith; no_deeper = omega arith; one = refl; quiet = λ h. h }

-- where no report was due
stays : (s : Stage) → (s ≡ FirstMissing → ⊥) → ((n k : ℕ) → s ≡ Misnumbered n k → ⊥) → ((n : ℕ) → s ≡ Tenth n → ⊥) → (s ≡ BodyMissing → ⊥) → ((b : Body) (d : ℕ) (t : Token) → s ≡ Illegal b d t → ⊥) → Comes s (to s)
stays First a b c d e = record { takes = λ m list fed. refl; shallow = omega arith; no_deeper = omega arith; one = refl; quiet = λ h. h }
stays FirstMissing a b c d e = absurd (a refl)
stays (Parameters n) a b c d e = record { takes = λ m list fed. refl; shallow = omega arith; no_deeper = omega arith; one = refl; quiet = λ h. h }
stays (Place n k) a b c d e = record { takes = λ m list fed. refl; shallow = omega arith; no_deeper = omega arith; one = refl; quiet = λ h. h }
stays (Misnumbered n k) a b c d e = absurd (b n k refl)
stays (Tenth n) a b c d e = absurd (c n refl)
stays BodyMissing a b c d e = absurd (d refl)
stays (InBody i n) a b c d e = record { takes = λ m list fed. refl; shallow = omega arith; no_deeper = omega arith; one = refl; quiet = λ h. h }
stays (Reference i n t) a b c d e = record { takes = λ m list fed. refl; shallow = omega arith; no_deeper = omega arith; one = refl; quiet = λ h. h }
stays (Illegal i n t) a b c d e = absurd (e i n t refl)

pub returns-in-FirstMissing : goal.returns-in-FirstMissing
returns-in-FirstMissing c =
    let h = equal _ _ _ _ c.in-FirstMissing.is c.to.ensures missing in
    record { takes = h.takes; shallow = h.shallow; no_deeper = h.no_deeper; one = h.one; quiet = h.quiet }

pub returns-in-Misnumbered : goal.returns-in-Misnumbered
returns-in-Misnumbered c =
    let h = equal _ _ _ _ c.in-Misnumbered.is c.with.ensures (misnumbered c.in-Misnumbered.count c.in-Misnumbered.character) in
    record { takes = h.takes; shallow = h.shallow; no_deeper = h.no_deeper; one = h.one; quiet = h.quiet }

pub returns-in-Tenth : goal.returns-in-Tenth
returns-in-Tenth c =
    let h = equal _ _ _ _ c.in-Tenth.is c.to-in-Tenth.ensures (tenth c.in-Tenth.count) in
    record { takes = h.takes; shallow = h.shallow; no_deeper = h.no_deeper; one = h.one; quiet = h.quiet }

pub returns-in-BodyMissing : goal.returns-in-BodyMissing
returns-in-BodyMissing c =
    let h = equal _ _ _ _ c.in-BodyMissing.is refl body_missing in
    record { takes = h.takes; shallow = h.shallow; no_deeper = h.no_deeper; one = h.one; quiet = h.quiet }

pub returns-in-Illegal : goal.returns-in-Illegal
returns-in-Illegal c =
    let h = equal _ _ _ _ c.in-Illegal.is c.with-in-Illegal.ensures (illegal c.in-Illegal.body c.in-Illegal.depth c.in-Illegal.character) in
    record { takes = h.takes; shallow = h.shallow; no_deeper = h.no_deeper; one = h.one; quiet = h.quiet }

pub returns-in_default : goal.returns-in_default
returns-in_default c =
    let d = c.in_default in
    let h = equal _ _ _ _ refl c.to-in_default.ensures (stays c.args.self d.not-FirstMissing d.not-Misnumbered d.not-Tenth d.not-BodyMissing d.not-Illegal) in
    record { takes = h.takes; shallow = h.shallow; no_deeper = h.no_deeper; one = h.one; quiet = h.quiet }
