-- Where things stand in main storage: the tables below the pageable frames, and what a write to one of them leaves.
use Rattle.std.proofs.Common.{◌≡◌, ℕ, ◌+◌, ◌*◌, ◌^◌, ◌<◌, ◌≤◌, ◌⊎◌, List, length, set, ◌∙◌, inl, inr, arith}
use Rattle.std.proofs.lemmas.Bool.{cases_lt}
use Rattle.model.specs.Law.{Fits, Pageable}
use Rattle.model.specs.Layout.{entry_at, segment_at, segment_entries, segments}
use Rattle.model.specs.World.{Config}
use Rattle.storage.specs.Bytes.{half, page, put_half, put_page, word}
use Rattle.storage.specs.Laws.{Within}
use Rattle.storage.specs.Over.{elsewhere, laws}

-- Two frames, or two page entries, do not meet.
pub frames_apart : (f g : ℕ) → (g ≡ f → ⊥) → (2048 * g + 2048 ≤ 2048 * f) ⊎ (2048 * f + 2048 ≤ 2048 * g)
frames_apart f g ne = elim (cases_lt g f) [ inl l ↦ inl (omega arith) | inr l ↦ inr (omega arith) ]

entries_apart : (p q : ℕ) → (p ≡ q → ⊥) → (entry_at p + 2 ≤ entry_at q) ⊎ (entry_at q + 2 ≤ entry_at p)
entries_apart p q ne = elim (cases_lt p q) [ inl l ↦ inl (omega arith) | inr l ↦ inr (omega arith) ]

-- A byte is in no other frame.
byte_apart : (f g i : ℕ) → i < 2048 → (g ≡ f → ⊥) → (2048 * g + 2048 ≤ 2048 * f + i) ⊎ (2048 * f + i + 1 ≤ 2048 * g)
byte_apart f g i h ne = elim (cases_lt g f) [ inl l ↦ inl (omega arith) | inr l ↦ inr (omega arith) ]

module _ (c : Config) (fit : Fits c) where
  pub entry_low : (p : ℕ) → p < 32 * segments c → entry_at p + 2 ≤ 2048 * c.supervisor
  entry_low p h = let t = fit.tables in let l = fit.low in omega arith

  pub segment_low : (g : ℕ) → g < segment_entries c → segment_at g + 4 ≤ 2048
  segment_low g h = let m = fit.most in omega arith

  -- a page below V has an entry
  pub listed : (p : ℕ) → p < c.pages → p < 32 * segments c
  listed p h = omega arith

  module _ (s : List ℕ) (long : length s ≡ 2048 * c.frames) where
    pub entry_fits : (p : ℕ) → p < 32 * segments c → entry_at p + 2 ≤ length s
    entry_fits p h = let l = entry_low p h in let k = fit.some in omega arith

    pub segment_fits : (g : ℕ) → g < segment_entries c → segment_at g + 4 ≤ length s
    segment_fits g h = let l = segment_low g h in let k = fit.some in let n = fit.low in omega arith

    pub frame_fits : (f : ℕ) → f < c.frames → 2048 * f + 2048 ≤ length s
    frame_fits f h = omega arith

    -- a page entry written
    module _ (q v : ℕ) (qt : q < 32 * segments c) where
      put : Within 2 (entry_at q) s (put_half s (entry_at q) v)
      put = laws.beside.half_within s (entry_at q) v

      pub e_long : length (put_half s (entry_at q) v) ≡ 2048 * c.frames
      e_long = put.long ∙ long

      pub e_same : v < 2 ^ 16 → half (put_half s (entry_at q) v) (entry_at q) ≡ v
      e_same h = laws.same.half_same s (entry_at q) v (entry_fits q qt) h

      pub e_other : (p : ℕ) → (p ≡ q → ⊥) → half (put_half s (entry_at q) v) (entry_at p) ≡ half s (entry_at p)
      e_other p ne = elsewhere.half_other 2 (entry_at q) (entry_at p) _ _ put (entries_apart p q ne)

      pub e_segment : (g : ℕ) → g < segment_entries c → word (put_half s (entry_at q) v) (segment_at g) ≡ word s (segment_at g)
      e_segment g h = let l = segment_low g h in elsewhere.word_other 2 (entry_at q) (segment_at g) _ _ put (inl (omega arith))

      pub e_frame : (f : ℕ) → Pageable c f → page (put_half s (entry_at q) v) (2048 * f) ≡ page s (2048 * f)
      e_frame f h =
          let l = entry_low q qt in
          let a = h.0 in
          elsewhere.page_other 2 (entry_at q) (2048 * f) _ _ put (frame_fits f h.1) (inr (omega arith))

    -- a frame written
    module _ (f : ℕ) (b : List ℕ) (fp : Pageable c f) (b_long : length b ≡ 2048) where
      fill : Within 2048 (2048 * f) s (put_page s (2048 * f) b)
      fill = laws.beside.page_within s (2048 * f) b (frame_fits f fp.1) b_long

      pub f_long : length (put_page s (2048 * f) b) ≡ 2048 * c.frames
      f_long = fill.long ∙ long

      pub f_same : page (put_page s (2048 * f) b) (2048 * f) ≡ b
      f_same = laws.same.page_same s (2048 * f) b (frame_fits f fp.1) b_long

      pub f_other : (g : ℕ) → g < c.frames → (g ≡ f → ⊥) → page (put_page s (2048 * f) b) (2048 * g) ≡ page s (2048 * g)
      f_other g h ne = elsewhere.page_other 2048 (2048 * f) (2048 * g) _ _ fill (frame_fits g h) (frames_apart f g ne)

      pub f_entry : (p : ℕ) → p < 32 * segments c → half (put_page s (2048 * f) b) (entry_at p) ≡ half s (entry_at p)
      f_entry p h = let l = entry_low p h in let a = fp.0 in elsewhere.half_other 2048 (2048 * f) (entry_at p) _ _ fill (inl (omega arith))

      pub f_segment : (g : ℕ) → g < segment_entries c → word (put_page s (2048 * f) b) (segment_at g) ≡ word s (segment_at g)
      f_segment g h =
          let l = segment_low g h in let a = fp.0 in let k = fit.low in
          elsewhere.word_other 2048 (2048 * f) (segment_at g) _ _ fill (inl (omega arith))

    -- a byte of a frame written
    module _ (f i v : ℕ) (fp : Pageable c f) (il : i < 2048) where
      poke : Within 1 (2048 * f + i) s (set s (2048 * f + i) v)
      poke = laws.beside.set_within s (2048 * f + i) v

      pub b_long : length (set s (2048 * f + i) v) ≡ 2048 * c.frames
      b_long = poke.long ∙ long

      pub b_same : page (set s (2048 * f + i) v) (2048 * f) ≡ set (page s (2048 * f)) i v
      b_same = laws.pages.set_page s (2048 * f) i v il

      pub b_other : (g : ℕ) → g < c.frames → (g ≡ f → ⊥) → page (set s (2048 * f + i) v) (2048 * g) ≡ page s (2048 * g)
      b_other g h ne = elsewhere.page_other 1 (2048 * f + i) (2048 * g) _ _ poke (frame_fits g h) (byte_apart f g i il ne)

      pub b_entry : (p : ℕ) → p < 32 * segments c → half (set s (2048 * f + i) v) (entry_at p) ≡ half s (entry_at p)
      b_entry p h = let l = entry_low p h in let a = fp.0 in elsewhere.half_other 1 (2048 * f + i) (entry_at p) _ _ poke (inl (omega arith))

      pub b_segment : (g : ℕ) → g < segment_entries c → word (set s (2048 * f + i) v) (segment_at g) ≡ word s (segment_at g)
      b_segment g h =
          let l = segment_low g h in let a = fp.0 in let k = fit.low in
          elsewhere.word_other 1 (2048 * f + i) (segment_at g) _ _ poke (inl (omega arith))
