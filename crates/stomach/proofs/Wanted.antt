-- The rule of the innermost reading where it wants a token.
use Rattle.std.proofs.Common.{◌≡◌, ◌∙◌, true, List, ◌∷◌, refl, sym, ap, subst}
use Rattle.std.specs.Prelude.{Option, None, Some}
use Rattle.tex_syntax.specs.declared.words.Want.{Want}
use Rattle.tex_syntax.specs.declared.words.Want.TheVariants.{Raw}
use Rattle.tex_defs.specs.declared.Sizes.{Sizes}
use Rattle.plain_machine.specs.States.{Move}
use Rattle.macro_call.specs.declared.ask.CallAsk.{CallAsk}
use Rattle.macro_call.specs.declared.ask.CallAsk.TheVariants as call
use Rattle.reading_frames.specs.declared.ask.Ask.TheVariants.{More}
use Rattle.input_state.specs.Callings.{NotCalling}
use Rattle.engine_state.specs.declared.engine.Engine.{Engine}
use Rattle.engine_state.specs.Book.{Book, with_work}
use Rattle.engine_state.specs.Calls.{AllStand, asks_of}
use Rattle.engine_state.specs.Rules.{Takes, next_moves, plan_of}
use Rattle.engine_state.specs.Steps.{asks_more, asks_now, wants_token}
use Rattle.engine_state.proofs.CallEnding.{by_call}
use Rattle.engine_state.proofs.Uncalled.{framed}
use Rattle.gullet.proofs.CallRules.{asks_this, call_wants}
use Rattle.stomach.specs.declared.innermost.Innermost.TheVariants as innermost
use Rattle.stomach.specs.AtHand.{IsWanted, ByCall, ByFrame, asks_token}
use Rattle.stomach.specs.Innermost.{IsAsked, frame_wants}
use Rattle.stomach.proofs.RuleAsks.{asked_here, by_ask, by_none, more_taken, wants_same}

-- it is a token that is wanted
frame_token : (want : Option Want) → frame_wants (asks_token want) ≡ true
frame_token None = refl
frame_token (Some want) = refl

pub token_wanted : (e : Engine) (want : Option Want) → IsWanted e want → wants_token (asks_now e) ≡ true
token_wanted e want (ByCall c is more w) =
    sym (wants_same e (innermost.Call c) is) ∙ ap (λ (a : CallAsk). asks_more (asks_of (record { name = c.name; ask = a }) NotCalling)) more
token_wanted e want (ByFrame none asks) = sym (wants_same e (innermost.Frame (asks_token want)) (none, asks)) ∙ frame_token want

-- the next rule is that of such a token
module _ (sizes : Sizes) (e : Engine) (P : Book → List Move → Type 0) where
  abbrev Follows : Option Want → Type 0
  Follows want = (book : Book) → Takes sizes want e book → P book (next_moves want e book)

  by_frame : (want : Option Want) → e.input.call ≡ NotCalling → IsAsked e (asks_token want) → Follows want → (book : Book) → AllStand sizes e book → P book (plan_of e book)
  by_frame None none asks h book st = by_none sizes e P asks.asks asks.stands none h book (framed sizes e book none st)
  by_frame (Some want) none asks h book st =
      by_ask sizes e (More want) (More want) P refl asks.stands
      (λ b r rs k. h (with_work (r ∷ rs) b) (more_taken sizes e want (with_work (r ∷ rs) b) none (asked_here e (More want) (More want) refl asks.asks) k)) book (framed sizes e book none st)

  pub by_wanted : (want : Option Want) → IsWanted e want → Follows want → (book : Book) → AllStand sizes e book → P book (plan_of e book)
  by_wanted want (ByCall c is more w) h =
      let here = asks_this e c call.More is more in
      by_call sizes e _ P here (λ book r rs st k. subst Follows w h (with_work (r ∷ rs) book) (call_wants e c.name here, st))
  by_wanted want (ByFrame none asks) h = by_frame want none asks h
