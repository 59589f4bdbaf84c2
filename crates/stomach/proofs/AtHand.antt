-- The rule of a token at hand, over the whole state.
use Rattle.std.proofs.Common.{◌≡◌, ℕ, true, false, List, refl, subst}
use Rattle.std.specs.Prelude.{◌||◌, Option, Some, IfSome, Ok, Err}
use Rattle.tex_syntax.specs.declared.words.Want.{Want}
use Rattle.tex_defs.specs.declared.Sizes.{Sizes}
use Rattle.world_io.specs.Contents.{FilesTold, SinkTold}
use Rattle.line_reader.specs.Readers.{OpenReaders, MayLeave}
use Rattle.plain_machine.specs.declared.broken.Broken.{Broken}
use Rattle.plain_machine.specs.Extended.{Rests, closes}
use Rattle.engine_state.specs.declared.engine.Engine.{Engine}
use Rattle.engine_state.specs.declared.outcome.Ruled.{Ruled}
use Rattle.engine_state.specs.Book.{Book}
use Rattle.engine_state.specs.Calls.{AllStand}
use Rattle.engine_state.specs.CutReadings.{CutsIn}
use Rattle.engine_state.specs.Rules.{plan_of, world_of}
use Rattle.engine_state.specs.Stands.{state_of}
use Rattle.engine_state.specs.Steps.{asks_now, asks_start, stepping}
use Rattle.stomach.specs.declared.early.Early.TheVariants as early
use Rattle.stomach.specs.Ahead.{is_opened}
use Rattle.stomach.specs.AtHand.{IsAtHand}
use Rattle.stomach.specs.Halting.{DoesRuleIn}
use Rattle.stomach.specs.Ran.{RuledTo}
use Rattle.stomach.proofs.OneRule.{readers_kept, rule_done, rule_broken}
use Rattle.stomach.proofs.Rounds.{keeps_open}
use Rattle.stomach.proofs.Wanted.{token_wanted}
use Rattle.stomach.proofs.Unread.{wants_no_start}

pub hand_of : (e : Engine) (o : Option (Option Want)) (want : Option Want) → o ≡ Some want → IfSome o (λ w. IsAtHand e w) → IsAtHand e want
hand_of e o want is h = subst (λ (x : Option (Option Want)). IfSome x (λ w. IsAtHand e w)) is h

module _ (rs : OpenReaders) (e e' : Engine) (s s' : SinkTold) (want : Option Want) (h : IsAtHand e want) (left : Rests) (may : MayLeave rs.readers left.left) where
  waits : stepping e ≡ true
  waits = subst (λ (o : Option (List ℕ)). (is_opened o || stepping e) ≡ true) h.unopened h.waits

  never : asks_start (asks_now e) ≡ false
  never = wants_no_start e (token_wanted e want h.wanted)

  stays : (sizes : Sizes) (book : Book) → AllStand sizes e book → closes (plan_of e book) ≡ false
  stays sizes book stands = keeps_open sizes e left rs.readers (h.knows rs.readers) may book stands h.unopened waits

  pub hand_done : (ruled : Ruled) → ((sizes : Sizes) (f : FilesTold) (book : Book) → AllStand sizes e book → DoesRuleIn sizes (state_of e book) e' (world_of f s e) (world_of f s' e') (plan_of e book) ruled) → RuledTo rs e s rs e' s' left left (Ok ruled)
  hand_done ruled does sizes f book stands tied =
      rule_done rs rs e e' s s' h.unopened never (λ t. h.knows rs.readers) refl left left may sizes f book stands tied (readers_kept rs e e' left book (stays sizes book stands) tied) ruled (does sizes f book stands)

  pub hand_broken : (b : Broken) → ((sizes : Sizes) (f : FilesTold) (book : Book) → AllStand sizes e book → CutsIn sizes (state_of e book) e' (world_of f s e) (world_of f s' e') (plan_of e book) b) → RuledTo rs e s rs e' s' left left (Err (early.Broken b))
  hand_broken b cuts sizes f book stands tied =
      rule_broken rs rs e e' s s' h.unopened never (λ t. h.knows rs.readers) refl left left may sizes f book stands tied (readers_kept rs e e' left book (stays sizes book stands) tied) b (cuts sizes f book stands)
