-- The tables written and tested entry by entry, and what the tests of IPL leave.
use Rattle.std.proofs.Common.{◌≡◌, ℕ, zero, suc, ◌+◌, ◌-◌, ◌<◌, Bool, true, false, cond, ◌&&◌, eqb, List, Some, None, Option, Ok, sym, refl, ap, ◌∙◌, arith}
use Rattle.model.specs.declared.calls.IplRefusal.TheVariants.{Partitions}
use Rattle.model.specs.declared.shape.Partition.{Partition}
use Rattle.model.specs.Ipl.{partitions_fit, sizes_fit}
use Rattle.model.specs.Layout.{key_of, segment_at, segment_word, segments_are}
use Rattle.model.specs.Law.{Fits}
use Rattle.model.specs.World.{Config}
use Rattle.model.proofs.Start.{fits_from}
use Rattle.storage.specs.Bytes.{word}
use Rattle.layout.specs.Config.{IsBounded}
use Rattle.std.specs.Option.{ok_or}
use Rattle.std.specs.List.{list_all, range_with_len}

-- A loop that counts up, against a recursion that counts down: one more is left than after this turn.
pub more : (n f : ℕ) → f < n → n - f ≡ suc (n - (f + 1))
more n f h = omega arith

-- The test of the segment table, as one test of a list.
module _ (c : Config) (s : List ℕ) where
  abbrev pub right : ℕ → Bool
  right g = eqb (word s (segment_at g)) (segment_word c g)

  pub segments_are-list_all : (g n : ℕ) → segments_are c s g n ≡ list_all right (range_with_len g n)
  unfolding segments_are
  segments_are-list_all g zero = refl
  segments_are-list_all g (suc n) = ap (λ b. right g && b) (segments_are-list_all (g + 1) n)

-- What the test of the partitions has kept.
kept_by : (b : Bool) (xs kept : List Partition) (r : Option (List Partition)) → r ≡ cond b (Some xs) None → Ok kept ≡ ok_or r Partitions → (kept ≡ xs) × (b ≡ true)
kept_by true xs kept None d e = cc
kept_by true xs kept (Some ys) d e = (let p : kept ≡ xs = cc in p, refl)
kept_by false xs kept None d e = cc
kept_by false xs kept (Some ys) d e = cc

-- The bounds of what passes the tests of IPL.
pub bounded : (c : Config) (s : List ℕ) (kept : List Partition) (r : Option (List Partition)) → true ≡ sizes_fit c s → r ≡ cond (partitions_fit c) (Some c.partitions) None
    → Ok kept ≡ ok_or r Partitions → IsBounded (record { frames = c.frames; supervisor = c.supervisor; pages = c.pages; partitions = kept })
bounded c s kept r t d e =
    let by = kept_by (partitions_fit c) c.partitions kept r d e in
    let fits : Fits c = (fits_from c s (sym t) by.1).0 in record {
      few = fits.few;
      within = let h = fits.some in omega arith;
      below = let h = fits.some in let l = fits.few in omega arith;
      most = fits.most;
      low = λ p key k. (fits.keys p key (ap (λ l. key_of l p) (sym by.0) ∙ k)).2;
    }
