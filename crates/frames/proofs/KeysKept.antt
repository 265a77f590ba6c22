-- What turning the reference bit off leaves.
use Rattle.std.proofs.Common.{◌≡◌, ℕ, ◌/◌, ◌%◌, false, eqb, List, length, get_or, set, sym, refl, ap, ◌∙◌, inl, inr, arith}
use Rattle.std.proofs.lemmas.List.{get_or-set_same, get_or-set_other, set_past, length-set}
use Rattle.std.proofs.lemmas.Bool.{cases_eq, cases_lt, ne_eqb}
use Rattle.frames.specs.Keys.{referred, changed, reference_off}
use Rattle.frames.specs.Policy.{KeysKept}

pub off_bit : (k : ℕ) → reference_off k / 4 % 2 ≡ 0
off_bit k = omega arith

pub off_change : (k : ℕ) → reference_off k / 2 % 2 ≡ k / 2 % 2
off_change k = omega arith

pub off_referred : (k : ℕ) → referred (reference_off k) ≡ false
off_referred k = ne_eqb _ _ (λ e. omega (arith, off_bit k))

pub off_changed : (k : ℕ) → changed (reference_off k) ≡ changed k
off_changed k = ap (λ b. eqb b 1) (off_change k)

pub off_off : (k : ℕ) → reference_off (reference_off k) ≡ reference_off k
off_off k = let b = off_bit k in omega arith

-- one frame's reference bit is turned off
pub kept_one : (keys : List ℕ) (f : ℕ) → KeysKept keys (set keys f (reference_off (get_or keys f 0)))
kept_one keys f = record {
  long = length-set keys f (reference_off (get_or keys f 0));
  each = λ i. elim (cases_eq i f) [
    | inr ne ↦ inl (get_or-set_other keys f i (reference_off (get_or keys f 0)) 0 ne)
    | inl e ↦ (elim (cases_lt f (length keys)) [
      | inl l ↦ inr (ap (λ k. get_or (set keys f (reference_off (get_or keys f 0))) k 0) e ∙ get_or-set_same keys f (reference_off (get_or keys f 0)) 0 l
          ∙ ap (λ k. reference_off (get_or keys k 0)) (sym e))
      | inr g ↦ inl (ap (λ l. get_or l i 0) (set_past keys f (reference_off (get_or keys f 0)) g))
    ])
  ];
}

-- nothing is altered
pub kept_all : (keys : List ℕ) → KeysKept keys keys
kept_all keys = record { long = refl; each = λ i. inl refl }

-- one change after another
pub kept_then : (before mid after : List ℕ) → KeysKept before mid → KeysKept mid after → KeysKept before after
kept_then before mid after a b = record {
  long = b.long ∙ a.long;
  each = λ i. elim (b.each i) [
    | inl e ↦ (elim (a.each i) [ inl d ↦ inl (e ∙ d) | inr d ↦ inr (e ∙ d) ])
    | inr e ↦ (elim (a.each i) [ inl d ↦ inr (e ∙ ap reference_off d) | inr d ↦ inr (e ∙ ap reference_off d ∙ off_off (get_or before i 0)) ])
  ];
}

-- the change bit is never altered
pub kept_changed : (before after : List ℕ) → KeysKept before after → (i : ℕ) → changed (get_or after i 0) ≡ changed (get_or before i 0)
kept_changed before after a i = elim (a.each i) [ inl e ↦ ap changed e | inr e ↦ ap changed e ∙ off_changed (get_or before i 0) ]
