-- What a line and a file ask for, and whether they have room.
use Rattle.std.proofs.Common.{◌≡◌, ℕ, ◌+◌, ◌<◌, ◌≤◌, List, [], ◌∷◌, ◌++◌, length, drop, Option, None, Some, refl, sym, ap, ap₂, ◌∙◌, subst}
use Rattle.tex_defs.specs.declared.Full.{Full}
use Rattle.tex_defs.specs.declared.Table.TheVariants.{BufferSize}
use Rattle.plain_tokens.specs.Lines.{first_bytes}
use Rattle.plain_tokens.specs.Puts.{Put}
use Rattle.plain_tokens.specs.Tables.{Demand, buffer, level, refused, next_line, next_file, first_line_of, open_lines}
use Rattle.equivalents.specs.Groups.{Groups}
use Rattle.equivalents.specs.Holding.{lists_held}
use Rattle.line_lexer.specs.declared.Line.{Line}
use Rattle.input_state.specs.FileLeft.{FilesLeft, innermost, rooms_end}
use Rattle.input_state.specs.HeldLists.{HeldLists, Covered, KeepsHeld, covered_puts, puts_held, level_held, at_line, pending_of}
use Rattle.input_state.specs.InputViews.{stored_of, IsTied}
use Rattle.input_state.specs.Macros.{KeepsLists, is_shared}
use Rattle.input_state.specs.Stored.{Stored}
use Rattle.input_state.proofs.Refusing.{buffer_fits, buffer_full}
use Rattle.input_state.proofs.Rooms.{level_is, lines_beneath_are, open_lines_are, rooms_length}

-- the refusal of bytes, where the lines use so much
abbrev pub full_buffer : (used size : ℕ) → Full
full_buffer used size = record { table = BufferSize; used = used; size = size }

module _ (h : HeldLists) (b : List ℕ) (f : FilesLeft) (s : Stored) (is : stored_of h b f ≡ s) (tied : IsTied h b f) where
  module _ (lines whole : ℕ) (lines_is : lines ≡ rooms_end (drop 1 f.files)) (whole_is : whole ≡ length (first_bytes (innermost f.files).rest)) where
    line_demand : next_line s.pending ≡ buffer (1 + whole) lines ∷ []
    line_demand =
        sym (ap (λ (v : Stored). next_line v.pending) is)
        ∙ ap₂ (λ (n used : ℕ). buffer (1 + n) used ∷ []) (sym whole_is) (lines_beneath_are h b f.files f.next (rooms_length h.below f.files tied.lines) ∙ sym lines_is)

    pub line_full : (full : Full) → full ≡ full_buffer lines h.sizes.buffer_size → h.sizes.buffer_size < lines + (1 + whole) → refused s.sizes (next_line s.pending) ≡ Some full
    line_full full full_is over =
        ap₂ refused (sym (ap (λ (v : Stored). v.sizes) is)) line_demand
        ∙ buffer_full h.sizes lines (1 + whole) [] over
        ∙ ap (λ (x : Full). Some x) (sym full_is)

    pub line_fits : lines + (1 + whole) ≤ h.sizes.buffer_size → refused s.sizes (next_line s.pending) ≡ None
    line_fits fits = ap₂ refused (sym (ap (λ (v : Stored). v.sizes) is)) line_demand ∙ buffer_fits h.sizes lines (1 + whole) [] fits

  module _ (lines whole : ℕ) (bytes : List ℕ) (lines_is : lines ≡ rooms_end f.files) (next_is : Some bytes ≡ f.next) (whole_is : whole ≡ length (first_bytes bytes)) where
    first_demands : next_file s.pending ≡ buffer (1 + whole) lines ∷ level_held h ∷ []
    first_demands =
        let same = rooms_length h.below f.files tied.lines in
        sym (ap (λ (v : Stored). next_file v.pending) is)
        ∙ sym (ap (λ (o : Option (List ℕ)). first_line_of o (pending_of h b f.files f.next)) next_is)
        ∙ ap₂ (λ (n used : ℕ). buffer (1 + n) used ∷ level (pending_of h b f.files f.next) ∷ []) (sym whole_is) (open_lines_are h b f.files f.next same ∙ sym lines_is)
        ∙ ap (λ (d : Demand). buffer (1 + whole) lines ∷ d ∷ []) (level_is h b f.files f.next same)

    pub first_full : (full : Full) → full ≡ full_buffer lines h.sizes.buffer_size → h.sizes.buffer_size < lines + (1 + whole) → refused s.sizes (next_file s.pending) ≡ Some full
    first_full full full_is over =
        ap₂ refused (sym (ap (λ (v : Stored). v.sizes) is)) first_demands
        ∙ buffer_full h.sizes lines (1 + whole) (level_held h ∷ []) over
        ∙ ap (λ (x : Full). Some x) (sym full_is)

    -- then its level
    pub first_level : lines + (1 + whole) ≤ h.sizes.buffer_size → refused s.sizes (next_file s.pending) ≡ refused h.sizes (level_held h ∷ [])
    first_level fits = ap₂ refused (sym (ap (λ (v : Stored). v.sizes) is)) first_demands ∙ buffer_fits h.sizes lines (1 + whole) (level_held h ∷ []) fits

  -- bytes behind the open lines
  module _ (lines n : ℕ) (lines_is : lines ≡ rooms_end f.files) where
    behind_demand : buffer n (open_lines s.pending) ∷ [] ≡ buffer n lines ∷ []
    behind_demand =
        ap (λ (used : ℕ). buffer n used ∷ []) (sym (ap (λ (v : Stored). open_lines v.pending) is) ∙ open_lines_are h b f.files f.next (rooms_length h.below f.files tied.lines) ∙ sym lines_is)

    pub behind_full : (full : Full) → full ≡ full_buffer lines h.sizes.buffer_size → h.sizes.buffer_size < lines + n → refused s.sizes (buffer n (open_lines s.pending) ∷ []) ≡ Some full
    behind_full full full_is over =
        ap₂ refused (sym (ap (λ (v : Stored). v.sizes) is)) behind_demand
        ∙ buffer_full h.sizes lines n [] over
        ∙ ap (λ (x : Full). Some x) (sym full_is)

    pub behind_fits : lines + n ≤ h.sizes.buffer_size → refused s.sizes (buffer n (open_lines s.pending) ∷ []) ≡ None
    behind_fits fits = ap₂ refused (sym (ap (λ (v : Stored). v.sizes) is)) behind_demand ∙ buffer_fits h.sizes lines n [] fits

-- MACROS KEEP THEIR LISTS

line_puts : (line : Line) (bs : List Covered) → covered_puts (at_line line bs) ≡ covered_puts bs
line_puts line [] = refl
line_puts line (b ∷ bs) = refl

pub line_keeps : (h front now : HeldLists) (line : Line) → now ≡ record front { below = at_line line front.below } → KeepsHeld h front → KeepsHeld h now
line_keeps h front now line is keeps =
    subst (KeepsHeld h) (sym is)
    (subst (λ (ps : List Put). KeepsLists (lists_held front.groups) ps h.lists front.lists) (sym (ap (λ (ps : List Put). front.puts ++ ps) (line_puts line front.below))) keeps)

pub held_twice : (h mid now : HeldLists) → KeepsHeld h mid → KeepsHeld mid now → now.groups ≡ mid.groups → puts_held now ≡ puts_held mid → KeepsHeld h now
held_twice h mid now first second groups puts = record {
  tokens = λ id is. second.tokens id is ∙ first.tokens id (sym (ap₂ (λ (g : Groups) (ps : List Put). is_shared id (lists_held g) ps) groups puts) ∙ is);
}
