-- What the stomach makes of a token.
use Rattle.std.proofs.Common.{◌≡◌, ℕ, List, [], ◌∷◌, refl, sym, ap, ◌∙◌, Bool, true, false, arith}
use Rattle.std.proofs.lemmas.Bool.Decides.{nat_tests}
use Rattle.std.specs.Prelude.{◌≢◌, Option, Some, None, is_some, if◌then◌else◌, ◌==◌}
use Rattle.save_stack.specs.declared.GroupKind.TheVariants.{Simple, SemiSimple}
use Rattle.tex_syntax.specs.declared.words.Report.TheVariants.{ExtraEndcsname}
use Rattle.tex_defs.specs.declared.Token.{Token}
use Rattle.tex_defs.specs.declared.RegisterKind.{RegisterKind}
use Rattle.tex_defs.specs.declared.Meaning.{Meaning}
use Rattle.tex_defs.specs.declared.Meaning.TheVariants as means
use Rattle.plain_tokens.specs.Categories.{begin_group, end_group}
use Rattle.plain_tokens.specs.Names.{end_primitive, relax_primitive}
use Rattle.rows.specs.Table.{find_row, has_row, has_row_in}
use Rattle.rows.specs.declared.command.Action.{Action}
use Rattle.rows.specs.declared.command.Head.{Head}
use Rattle.rows.specs.declared.command.Head.TheVariants.{Primitive, Register}
use Rattle.rows.specs.declared.command.Row.{Row}
use Rattle.plain_readings.specs.Spelling.{endcsname_primitive}
use Rattle.plain_machine.specs.States.{Move, GroupOpened}
use Rattle.plain_machine.specs.Plan.{Page, begun, finish, reported, token_line, begingroup_primitive, endgroup_primitive, brace_met, endgroup_met, primitive, register, character, command}

-- PRIMITIVES

found_row : (o : Option (Row × Action)) → has_row_in o ≡ is_some o
found_row None = refl
found_row (Some row) = refl

-- a command has a row where one is found
pub row_found : (h : Head) (o : Option (Row × Action)) (b : Bool) → o ≡ find_row h → is_some o ≡ b → has_row h ≡ b
row_found h o b is some = ap has_row_in (sym is) ∙ (found_row o ∙ some)

unequal : (n k : ℕ) → n ≢ k → (n == k) ≡ false
unequal n k h = grind (arith, nat_tests, h)

module _ (page : Page) (t : Token) where
  -- one that has none
  abbrev rowless_moves : ℕ → List Move
  rowless_moves n =
      if n == end_primitive then finish page
      else if n == relax_primitive then []
      else if n == begingroup_primitive then GroupOpened SemiSimple ∷ []
      else if n == endgroup_primitive then endgroup_met page t page.group
      else if n == endcsname_primitive then reported page ExtraEndcsname []
      else token_line page (means.Prim n)

  module _ (n : ℕ) where
    pub row_moves : has_row (Primitive n) ≡ true → primitive page t n ≡ begun t (Primitive n)
    row_moves has = ap (λ (b : Bool). if b then begun t (Primitive n) else rowless_moves n) has

    rowless : has_row (Primitive n) ≡ false → primitive page t n ≡ rowless_moves n
    rowless none = ap (λ (b : Bool). if b then begun t (Primitive n) else rowless_moves n) none

    pub end_moves : has_row (Primitive n) ≡ false → n ≡ end_primitive → primitive page t n ≡ finish page
    end_moves none is = rowless none ∙ ap rowless_moves is

    pub begingroup_moves : has_row (Primitive n) ≡ false → n ≡ begingroup_primitive → primitive page t n ≡ GroupOpened SemiSimple ∷ []
    begingroup_moves none is = rowless none ∙ ap rowless_moves is

    pub endgroup_moves : has_row (Primitive n) ≡ false → n ≡ endgroup_primitive → primitive page t n ≡ endgroup_met page t page.group
    endgroup_moves none is = rowless none ∙ ap rowless_moves is

    pub endcsname_moves : has_row (Primitive n) ≡ false → n ≡ endcsname_primitive → primitive page t n ≡ reported page ExtraEndcsname []
    endcsname_moves none is = rowless none ∙ ap rowless_moves is

    pub other_moves : has_row (Primitive n) ≡ false → n ≢ end_primitive → n ≢ relax_primitive → n ≢ begingroup_primitive → n ≢ endgroup_primitive → n ≢ endcsname_primitive → primitive page t n ≡ token_line page (means.Prim n)
    other_moves none a b c d e =
        rowless none ∙ rw (unequal n end_primitive a, unequal n relax_primitive b, unequal n begingroup_primitive c, unequal n endgroup_primitive d, unequal n endcsname_primitive e) refl

-- NAMES OF REGISTERS

module _ (page : Page) (t : Token) (kind : RegisterKind) (n : ℕ) where
  register_moves : (b : Bool) → has_row (Register kind n) ≡ b → register page t kind n ≡ (if b then begun t (Register kind n) else token_line page (means.Register kind n))
  register_moves b is = ap (λ (x : Bool). if x then begun t (Register kind n) else token_line page (means.Register kind n)) is

  pub assigned_moves : has_row (Register kind n) ≡ true → register page t kind n ≡ begun t (Register kind n)
  assigned_moves is = register_moves true is

  pub unread_moves : has_row (Register kind n) ≡ false → register page t kind n ≡ token_line page (means.Register kind n)
  unread_moves is = register_moves false is

-- CHARACTERS

module _ (page : Page) (category code : ℕ) where
  -- a left brace opens a group
  pub left_moves : category ≡ begin_group → character page category code ≡ GroupOpened Simple ∷ []
  left_moves is = ap (λ (n : ℕ). character page n code) is

  -- a right brace closes one
  pub right_moves : category ≡ end_group → character page category code ≡ brace_met page page.group
  right_moves is = ap (λ (n : ℕ). character page n code) is

  -- another has its line
  pub shown_moves : category ≢ begin_group → category ≢ end_group → character page category code ≡ token_line page (means.Char category code)
  shown_moves a b = rw (unequal category begin_group a, unequal category end_group b) refl

-- neither a primitive nor the name of a register, nor a name behind `\noexpand`, nor a character
pub line_moves : (page : Page) (t : Token) (m : Meaning Unit) → ((n : ℕ) → m ≡ means.Prim n → ⊥) → ((kind : RegisterKind) (n : ℕ) → m ≡ means.Register kind n → ⊥) → (m ≡ means.RelaxMarked → ⊥) → ((category code : ℕ) → m ≡ means.Char category code → ⊥) →
    command page t m ≡ token_line page m
line_moves page t (means.Prim n) a b c d = absurd (a n refl)
line_moves page t (means.Register kind n) a b c d = absurd (b kind n refl)
line_moves page t means.RelaxMarked a b c d = absurd (c refl)
line_moves page t means.Undefined a b c d = refl
line_moves page t (means.Macro long outer list) a b c d = refl
line_moves page t (means.Char category code) a b c d = absurd (d category code refl)
line_moves page t (means.CharGiven n) a b c d = refl
line_moves page t (means.MathGiven n) a b c d = refl
