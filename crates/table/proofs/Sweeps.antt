-- The search, the count and IPL's sweep of the frames, as chains and a loop over frame numbers have them.
use Rattle.std.proofs.Common.{◌≡◌, ℕ, zero, suc, ◌+◌, ◌-◌, ◌<◌, ◌≤◌, Bool, true, false, cond, eqb, List, ◌∷◌, length, set, Some, None, Option, sym, refl, ap, ◌∙◌, arith, map, filter, ◌++◌}
use Rattle.std.specs.List.{find, range_with_len}
use Rattle.std.specs.Option.{option_map}
use Rattle.std.proofs.lemmas.List.{set-append_left, set_past}
use Rattle.model.specs.declared.shape.FrameRecord.{FrameRecord}
use Rattle.model.specs.Layout.{counted, found_in, page_in}
use Rattle.model.specs.Ipl.{own_pages}

-- the search
found_in-find : (rs : List FrameRecord) (p f n : ℕ) → found_in rs p f n ≡ find (λ g. eqb (page_in rs g) p) (map (λ g. g) (range_with_len f n))
unfolding found_in
found_in-find rs p f zero = refl
found_in-find rs p f (suc n) = ap (cond (eqb (page_in rs f) p) (Some f)) (found_in-find rs p (f + 1) n)

pub found_in-by_find : (rs : List FrameRecord) (p f n : ℕ) (r : Option ℕ)
    → option_map (λ g. g) r ≡ find (λ g. eqb (page_in rs g) p) (map (λ g. g) (range_with_len f n)) → r ≡ found_in rs p f n
found_in-by_find rs p f n None e = e ∙ sym (found_in-find rs p f n)
found_in-by_find rs p f n (Some g) e = e ∙ sym (found_in-find rs p f n)

-- the count
pub counted-length_filter : (test : ℕ → Bool) (f n : ℕ) → counted test f n ≡ length (filter test (range_with_len f n))
unfolding counted
counted-length_filter test f zero = refl
counted-length_filter test f (suc n) =
    let rest = counted-length_filter test (f + 1) n in
    elim (test f) as (λ b. cond b 1 0 + counted test (f + 1) n ≡ length (cond b (f ∷ filter test (range_with_len (f + 1) n)) (filter test (range_with_len (f + 1) n)))) [
      | true ↦ omega arith
      | false ↦ omega arith
    ]

-- IPL's sweep: no frame is left, or those that are left are past the table
own_pages-suc : (f n : ℕ) (rs : List FrameRecord) → own_pages f (suc n) rs ≡ own_pages (f + 1) n (set rs f (record { page = f; fixes = 0 }))
unfolding own_pages
own_pages-suc f n rs = refl

own_pages-zero : (f : ℕ) (rs : List FrameRecord) → own_pages f zero rs ≡ rs
unfolding own_pages
own_pages-zero f rs = refl

pub own_pages-past : (f n : ℕ) (rs : List FrameRecord) → (0 < n → length rs ≤ f) → own_pages f n rs ≡ rs
own_pages-past f zero rs h = own_pages-zero f rs
own_pages-past f (suc n) rs h =
    let past : length rs ≤ f = h (omega arith) in
    own_pages-suc f n rs ∙ ap (own_pages (f + 1) n) (set_past rs f (record { page = f; fixes = 0 }) past) ∙ own_pages-past (f + 1) n rs (λ _. omega arith)

-- the first records of a table, in which the sweep is, and the rest of it: one frame more
pub own_pages-more : (f n : ℕ) (front rest : List FrameRecord) → f < n → f < length front
    → own_pages (f + 1) (n - (f + 1)) (set front f (record { page = f; fixes = 0 }) ++ rest) ≡ own_pages f (n - f) (front ++ rest)
own_pages-more f n front rest h k =
    let one : n - f ≡ suc (n - (f + 1)) = omega arith in
    ap (own_pages (f + 1) (n - (f + 1))) (sym (set-append_left front rest f (record { page = f; fixes = 0 }) k)) ∙ sym (own_pages-suc f (n - (f + 1)) (front ++ rest))
    ∙ ap (λ j. own_pages f j (front ++ rest)) (sym one)
