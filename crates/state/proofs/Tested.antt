-- The tests of frames and entries, one after another, as tests of lists.
use Rattle.std.proofs.Common.{◌≡◌, ℕ, zero, suc, ◌+◌, ◌-◌, ◌*◌, Bool, ◌&&◌, List, sym, refl, ap, ◌∙◌}
use Rattle.std.specs.List.{list_all, range_with_len}
use Rattle.model.specs.declared.shape.FrameRecord.{FrameRecord}
use Rattle.model.specs.Layout.{entries_are, entry_is, entry_should, frame_is, frames_are, segments}
use Rattle.model.specs.World.{Config}

module _ (c : Config) (s : List ℕ) (rs : List FrameRecord) where
  frames_are-list_all : (f n : ℕ) → frames_are c s rs f n ≡ list_all (frame_is c s rs) (range_with_len f n)
  unfolding frames_are
  frames_are-list_all f zero = refl
  frames_are-list_all f (suc n) = ap (λ b. frame_is c s rs f && b) (frames_are-list_all (f + 1) n)

  -- the frames from the first pageable one up to the last
  pub frames_are-all : (first past : ℕ) (b : Bool) → first ≡ c.supervisor → past ≡ c.frames → b ≡ list_all (frame_is c s rs) (range_with_len first (past - first))
      → b ≡ frames_are c s rs c.supervisor (c.frames - c.supervisor)
  frames_are-all first past b f p e = e ∙ sym (frames_are-list_all first (past - first)) ∙ cc

  abbrev pub right : ℕ → Bool
  right p = entry_is s p (entry_should c s rs p)

  entries_are-list_all : (p n : ℕ) → entries_are c s rs p n ≡ list_all right (range_with_len p n)
  unfolding entries_are
  entries_are-list_all p zero = refl
  entries_are-list_all p (suc n) = ap (λ b. right p && b) (entries_are-list_all (p + 1) n)

  -- the entries of all page tables
  pub entries_are-all : (n : ℕ) (b : Bool) → n ≡ 32 * segments c → b ≡ list_all right (range_with_len 0 n) → b ≡ entries_are c s rs 0 (32 * segments c)
  entries_are-all n b h e = e ∙ sym (entries_are-list_all 0 n) ∙ ap (entries_are c s rs 0) h
