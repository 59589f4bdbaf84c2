-- An argument that runs away: it is shown, a token put in front, and a report comes.
use Rattle.std.proofs.Common.{◌≡◌, ℕ, List, [], ◌∷◌, ◌++◌, refl, sym, ap, subst, ◌∙◌, Bool}
use Rattle.tex_syntax.specs.declared.words.Report.{Report}
use Rattle.tex_defs.specs.declared.Sizes.{Sizes}
use Rattle.tex_defs.specs.declared.Token.{Token}
use Rattle.tex_defs.specs.Places.{World, Transcript}
use Rattle.plain_machine.specs.declared.broken.Broken.{Broken}
use Rattle.plain_machine.specs.States.{State, Move, Written}
use Rattle.plain_machine.specs.Plan.{Page, page_behind, put_one, failed}
use Rattle.plain_machine.specs.Does.{Did}
use Rattle.plain_machine.specs.Runs.{steps}
use Rattle.plain_machine.proofs.Doing.{did_join}
use Rattle.world_io.specs.Contents.{FilesTold, SinkTold, world}
use Rattle.engine_state.specs.declared.engine.Engine.{Engine}
use Rattle.engine_state.specs.declared.outcome.Ruled.{Ruled}
use Rattle.engine_state.specs.declared.outcome.Ruled.TheVariants.{Step, Free, Halted}
use Rattle.engine_state.specs.Book.{Book}
use Rattle.engine_state.specs.Calls.{call_away_moves}
use Rattle.engine_state.specs.Stands.{OnlyColumn, state_of, page_of}
use Rattle.engine_state.specs.Rules.{world_of, Cuts, DoesRule}
use Rattle.engine_state.specs.Steps.{IsStep}
use Rattle.engine_state.proofs.Cutting.{later_cuts}
use Rattle.engine_state.proofs.Joining.{went_on, halts_on}

-- moves without a step in front of a rule that has none
pub free_join : (sizes : Sizes) (s u : State) (e' : Engine) (book : Book) (w v w' : World) (ms ns : List Move) (ruled : Ruled) → u.reports ≡ s.reports → Did sizes s u w v ms → steps ms ≡ 0 → (IsStep ruled → ⊥) → DoesRule sizes u e' book v w' ns ruled → DoesRule sizes s e' book w w' (ms ++ ns) ruled
free_join sizes s u e' book w v w' ms ns Step l d n none_here h = absurd (none_here tt)
free_join sizes s u e' book w v w' ms ns Free l d n none_here h = went_on sizes s u e' w v w' ms ns 0 0 d n h
free_join sizes s u e' book w v w' ms ns (Halted o) l d n none_here h = halts_on sizes s u e' book w v w' ms ns o 0 1 l d n h

module _ (sizes : Sizes) (e e1 e2 : Engine) (f : FilesTold) (s0 s1 : SinkTold) (text : List ℕ) (t : Token) (report : Report) (book : Book) (only : OnlyColumn e e1) (page : page_of e2 book ≡ page_of e1 book)
    (shown : Did sizes (state_of e book) (state_of e1 book) (world_of f s0 e) (world_of f s1 e1) (Written Transcript text ∷ [])) where
  away_page : page_of e2 book ≡ page_behind (page_of e book) text
  away_page =
      page ∙ ap (λ (x : Engine). page_of x book) only.same ∙ ap (λ (b : Bool). record (page_of e book) { in_line = b }) shown.written.column

  column : e2.in_line ≡ e1.in_line
  column = ap (λ (p : Page). p.in_line) page

  -- the token has no room
  pub call_away_full : (b : Broken) → ((more : List Move) → Cuts sizes (state_of e1 book) e2 book (world_of f s1 e1) (world_of f s1 e1) (put_one t ++ more) b) →
      Cuts sizes (state_of e book) e2 book (world_of f s0 e) (world_of f s1 e2) (call_away_moves (page_of e book) text t report) b
  call_away_full b h =
      subst (λ (x : Bool). Cuts sizes (state_of e book) e2 book (world_of f s0 e) (world f s1 x) (call_away_moves (page_of e book) text t report) b) (sym column)
      (later_cuts sizes _ (state_of e1 book) e2 book (world_of f s0 e) (world_of f s1 e1) (world_of f s1 e1) (Written Transcript text ∷ []) (put_one t ++ failed (page_behind (page_of e book) text) report) b shown
      (h (failed (page_behind (page_of e book) text) report)))

  module _ (s3 : SinkTold) (e3 : Engine) (put : (w : World) → Did sizes (state_of e1 book) (state_of e2 book) w w (put_one t)) where
    both : Did sizes (state_of e book) (state_of e2 book) (world_of f s0 e) (world_of f s1 e2) (Written Transcript text ∷ put_one t)
    both = subst (λ (x : Bool). Did sizes (state_of e book) (state_of e2 book) (world_of f s0 e) (world f s1 x) (Written Transcript text ∷ put_one t)) (sym column)
        (did_join sizes _ _ _ _ _ _ (Written Transcript text ∷ []) (put_one t) shown (put (world_of f s1 e1)))

    pub call_away_rule : (ruled : Ruled) → (IsStep ruled → ⊥) → DoesRule sizes (state_of e2 book) e3 book (world_of f s1 e2) (world_of f s3 e3) (failed (page_of e2 book) report) ruled →
        DoesRule sizes (state_of e book) e3 book (world_of f s0 e) (world_of f s3 e3) (call_away_moves (page_of e book) text t report) ruled
    call_away_rule ruled none_here on =
        free_join sizes (state_of e book) (state_of e2 book) e3 book (world_of f s0 e) (world_of f s1 e2) (world_of f s3 e3) (Written Transcript text ∷ put_one t) (failed (page_behind (page_of e book) text) report) ruled (ap (λ (p : Page). p.reports) page ∙ ap (λ (x : Engine). x.reports) only.same) both refl none_here
        (subst (λ (p : Page). DoesRule sizes (state_of e2 book) e3 book (world_of f s1 e2) (world_of f s3 e3) (failed p report) ruled) away_page on)

    pub call_away_cuts : (b : Broken) → Cuts sizes (state_of e2 book) e3 book (world_of f s1 e2) (world_of f s3 e3) (failed (page_of e2 book) report) b →
        Cuts sizes (state_of e book) e3 book (world_of f s0 e) (world_of f s3 e3) (call_away_moves (page_of e book) text t report) b
    call_away_cuts b h =
        later_cuts sizes (state_of e book) (state_of e2 book) e3 book (world_of f s0 e) (world_of f s1 e2) (world_of f s3 e3) (Written Transcript text ∷ put_one t) (failed (page_behind (page_of e book) text) report) b both
        (subst (λ (p : Page). Cuts sizes (state_of e2 book) e3 book (world_of f s1 e2) (world_of f s3 e3) (failed p report) b) away_page h)
