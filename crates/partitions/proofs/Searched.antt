-- The search of a list of partitions, and a list copied into the array.
use Rattle.std.proofs.Common.{◌≡◌, ℕ, ◌+◌, ◌-◌, ◌≤◌, true, false, cond, ◌&&◌, ltb, leb, List, [], ◌∷◌, ◌++◌, length, take, drop, replicate, length-append, length-drop, Some, sym, refl, ap, ◌∙◌, arith}
use Rattle.std.specs.List.{find}
use Rattle.std.specs.Option.{option_map}
use Rattle.std.proofs.lemmas.List.{drop-replicate, take_at}
use Rattle.model.specs.declared.shape.Partition.{Partition}
use Rattle.model.specs.Layout.{key_of}
use Rattle.partitions.specs.Partitions.{IsPadded, spare}

-- The key of a page is that of the first partition that it is in.
pub key_of-find : (list : List Partition) (page : ℕ) → key_of list page ≡ option_map (λ (p : Partition). p.key) (find (λ (p : Partition). leb p.first page && ltb page (p.first + p.count)) list)
key_of-find [] page = refl
key_of-find (p ∷ rest) page =
    elim (leb p.first page && ltb page (p.first + p.count)) as (λ b. cond b (Some p.key) (key_of rest page) ≡ option_map (λ (q : Partition). q.key) (cond b (Some p) (find (λ (q : Partition). leb q.first page && ltb page (q.first + q.count)) rest)))
    [ true ↦ refl | false ↦ key_of-find rest page ]

-- A list copied to the front of five places that are not in use.
module _ (xs qs : List Partition) (e : qs ≡ xs) (few : length xs ≤ 5) where
  abbrev copied : List Partition
  copied = qs ++ drop (length xs) (replicate 5 spare)

  front : take (length xs) copied ≡ qs
  front = take_at qs (drop (length xs) (replicate 5 spare)) (length xs) (ap length e)

  pub copied_taken : take (length xs) copied ≡ xs
  copied_taken = front ∙ e

  behind : (n : ℕ) → n ≡ length xs → drop (length xs) (replicate 5 spare) ≡ replicate (5 - n) spare
  behind n d = drop-replicate (length xs) 5 spare ∙ ap (λ k. replicate (5 - k) spare) (sym d)

  pub copied_filled : IsPadded copied (length xs)
  copied_filled = record {
    few = few;
    long = rw (length-append, length-drop) (let l = ap length e in omega arith);
    rest = rw front (ap (λ r. qs ++ r) (behind (length qs) (ap length e)));
  }
