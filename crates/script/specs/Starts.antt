-- What the words of IPL say.
use Rattle.std.specs.Prelude.{◌≡◌, ℕ, List, [], ◌∷◌, ◌++◌, codes}
use Rattle.std.specs.List.{AllZip}
use Rattle.std.proofs.Common.{Bor}
use Rattle.model.specs.declared.shape.Partition.{Partition}
use Rattle.script.specs.Numbers.{Writes}
use Rattle.script.specs.Said.{AllNamed, OnceOrZero, values}
use Rattle.script.specs.declared.start.Start.{Start}

-- A text writes a partition: its first page, its count and its key, with a comma between two of them.
abbrev pub WritesPartition : List ℕ → Partition → Type 0
WritesPartition text p =
    (first : List ℕ) × (count : List ℕ) × (key : List ℕ) × (text ≡ first ++ (44 ∷ (count ++ (44 ∷ key))))
    × Writes first p.first × Writes count p.count × Writes key p.key

-- The names of IPL's words.
abbrev pub start_names : List (List ℕ)
start_names = codes "frames" ∷ codes "supervisor" ∷ codes "pages" ∷ codes "partition" ∷ []

-- Words of IPL say a start: each has one of its names; each number once, or not at all where it is 0, and the partitions in
-- their order.
pub record SaysStart (words : List (Bor (List ℕ))) (start : Start) : Type 0 where
  pub known : AllNamed start_names words
  pub frames : OnceOrZero Writes (values (codes "frames") words) start.frames
  pub supervisor : OnceOrZero Writes (values (codes "supervisor") words) start.supervisor
  pub pages : OnceOrZero Writes (values (codes "pages") words) start.pages
  pub partitions : AllZip WritesPartition (values (codes "partition") words) start.partitions.items
