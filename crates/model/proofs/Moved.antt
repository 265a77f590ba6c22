-- A page connected, a byte stored, a count changed: what ties storage to the flat machine is kept.
use Rattle.std.proofs.Common.{◌≡◌, ℕ, ◌+◌, ◌-◌, ◌*◌, ◌/◌, ◌%◌, ◌<◌, ◌≤◌, true, false, cond, eqb, ltb, List, length, get_or, set, Some, sym, refl, ap, ◌∙◌, subst, inl, inr, arith}
use Rattle.std.proofs.lemmas.List.{get_or-set_same, get_or-set_other, length-set}
use Rattle.std.proofs.lemmas.Bool.{both_ways, cases_eq, cases_lt}
use Rattle.frames.specs.Keys.{changed}
use Rattle.model.specs.declared.shape.FrameRecord.{FrameRecord}
use Rattle.model.specs.Flat.{fixed_pages}
use Rattle.model.specs.Law.{Fits, Pageable, Table}
use Rattle.model.specs.Layout.{bit15, entry_at, fixed_in, fixes_in, key_of, no_page, page_in, segments, vacant}
use Rattle.model.specs.Tests.{Absent, Entries}
use Rattle.model.specs.World.{Config}
use Rattle.model.proofs.Find.{counted_same, counted_up}
use Rattle.model.proofs.Memory.{Content, Counts, backing}
use Rattle.model.proofs.Own.{fixes_here, fixes_kept, fixes_there, frame_listed, get_or-set_alike, in_table, page_here, page_there, pages_kept, real_page}
use Rattle.model.proofs.Place.{b_entry, b_long, b_other, b_same, b_segment, e_frame, f_long, f_other, f_same, listed}
use Rattle.model.proofs.Ready.{after_entry, after_long, after_other, after_segment}
use Rattle.pages.specs.Store as stores
use Rattle.storage.specs.Bytes.{half, page, put_half, put_page, zeros}
use Rattle.storage.specs.Over.{elsewhere, laws}

-- A page that no frame has comes into frame f, which has none.
module _ {S : Type 0} (r : stores.Rules S) (c : Config) (fit : Fits c) (rs : List FrameRecord) (tab : Table c rs) (s : List ℕ)
    (ents : Entries c rs s) (f p key : ℕ) (fp : Pageable c f) (none : page_in rs f ≡ no_page) (part : key_of c.partitions p ≡ Some key) (absent : Absent c rs p)
    (b : List ℕ) (bl : length b ≡ 2048) where
  abbrev come : FrameRecord
  come = record { page = p; fixes = fixes_in rs f }

  p_in : (c.supervisor ≤ p) × (p < c.pages) × (key ≤ 15)
  p_in = fit.keys p key part

  pt : p < 32 * segments c
  pt = listed c fit p p_in.1

  fl : f < length rs
  fl = in_table c fit rs tab f fp.1

  here : page_in (set rs f come) f ≡ p
  here = page_here rs f come fl

  abbrev s2 : List ℕ
  s2 = put_half (put_page s (2048 * f) b) (entry_at p) (8 * f + bit15 (put_page s (2048 * f) b) p)

  -- a page that is absent then was absent, and is not p
  absent_then : (q : ℕ) → Absent c (set rs f come) q → (q ≡ p → ⊥) × ((q ≡ no_page → ⊥) → Absent c rs q)
  absent_then q a = (
    (λ z. a f fp (here ∙ sym z)),
    λ nq g gp is. elim (cases_eq g f) [ inl e ↦ nq (sym is ∙ ap (page_in rs) e ∙ none) | inr e ↦ a g gp (page_there rs f come g e ∙ is) ],
  )

  -- the page of another frame
  other : (g : ℕ) → (g ≡ f → ⊥) → page_in (set rs f come) g ≡ page_in rs g
  other g ne = page_there rs f come g ne

  pub connected_entries : Entries c (set rs f come) s2
  connected_entries = record {
    long = after_long c fit s ents.long f p fp p_in.1 b bl;
    segment = λ g h. after_segment c fit s ents.long f p fp p_in.1 b bl g h ∙ ents.segment g h;
    supervisor = λ q h. ap (λ n. n / 2) (after_other c fit s ents.long f p fp p_in.1 b bl q (let a = fit.more in omega arith) (λ e. let a = p_in.0 in omega arith)) ∙ ents.supervisor q h;
    inside = λ g gp gn. elim (cases_eq g f) [
      | inl e ↦
          ap (λ x. half s2 (entry_at (page_in (set rs f come) x)) / 2) e ∙ ap (λ x. half s2 (entry_at x) / 2) here
          ∙ ap (λ n. n / 2) (after_entry c fit s ents.long f p fp p_in.1 b bl) ∙ (let v : (8 * f + bit15 s p) / 2 ≡ 4 * g = omega arith in v)
      | inr e ↦
          let old : page_in rs g ≡ no_page → ⊥ = λ z. gn (other g e ∙ z) in
          ap (λ x. half s2 (entry_at x) / 2) (other g e)
          ∙ ap (λ n. n / 2) (after_other c fit s ents.long f p fp p_in.1 b bl (page_in rs g) (frame_listed c fit rs tab g gp old) (absent g gp)) ∙ ents.inside g gp old
    ];
    outside = λ q y e a.
        let t = absent_then q a in
        let qv = (fit.keys q y e).1 in
        ap (λ n. n / 2) (after_other c fit s ents.long f p fp p_in.1 b bl q (listed c fit q qv) t.0) ∙ ents.outside q y e (t.1 (real_page c fit q y e));
    unused = λ q qt lo e.
        ap (λ n. n / 2) (after_other c fit s ents.long f p fp p_in.1 b bl q qt (λ z. cc)) ∙ ents.unused q qt lo e;
  }

  -- the frames after
  frame_here : page s2 (2048 * f) ≡ b
  frame_here = e_frame c fit (put_page s (2048 * f) b) (f_long c fit s ents.long f b fp bl) p _ pt f fp ∙ f_same c fit s ents.long f b fp bl

  frame_there : (g : ℕ) → Pageable c g → (g ≡ f → ⊥) → page s2 (2048 * g) ≡ page s (2048 * g)
  frame_there g gp ne = e_frame c fit (put_page s (2048 * f) b) (f_long c fit s ents.long f b fp bl) p _ pt g gp ∙ f_other c fit s ents.long f b fp bl g gp.1 ne

  pub connected_content : (ks : List ℕ) (k256 : f < length ks) (st : S) (bytes : List ℕ) → Content r c rs ks st s bytes → b ≡ backing r c s st p
      → Content r c (set rs f come) (set ks f (16 * key)) st s2 bytes
  connected_content ks k256 st bytes k is =
      let behind : (q : ℕ) → half s2 (entry_at q) % 2 ≡ half s (entry_at q) % 2 → backing r c s2 st q ≡ backing r c s st q = λ q e.
      ap (λ n. cond (eqb n 1) zeros (r.slot st (q - c.supervisor))) e in
      let p_behind : backing r c s2 st p ≡ backing r c s st p =
      behind p (ap (λ n. n % 2) (after_entry c fit s ents.long f p fp p_in.1 b bl) ∙ (let v : (8 * f + bit15 s p) % 2 ≡ half s (entry_at p) % 2 = omega arith in v)) in
      let q_behind : (q : ℕ) → q < 32 * segments c → (q ≡ p → ⊥) → backing r c s2 st q ≡ backing r c s st q = λ q qt np.
      behind q (ap (λ n. n % 2) (after_other c fit s ents.long f p fp p_in.1 b bl q qt np)) in
      let right : backing r c s st p ≡ page bytes (2048 * p) = k.outside p key part absent in
      record {
        long = k.long;
        inside = λ g gp gn. elim (cases_eq g f) [
          | inl e ↦ ap (λ x. page s2 (2048 * x)) e ∙ frame_here ∙ is ∙ right ∙ ap (λ x. page bytes (2048 * x)) (sym here ∙ ap (page_in (set rs f come)) (sym e))
          | inr e ↦ frame_there g gp e ∙ k.inside g gp (λ z. gn (other g e ∙ z)) ∙ ap (λ x. page bytes (2048 * x)) (sym (other g e))
        ];
        clean = λ g gp gn off. elim (cases_eq g f) [
          | inl e ↦ subst (λ x. backing r c s2 st x ≡ page bytes (2048 * x)) (sym here ∙ ap (page_in (set rs f come)) (sym e)) (p_behind ∙ right)
          | inr e ↦
              let old : page_in rs g ≡ no_page → ⊥ = λ z. gn (other g e ∙ z) in
              subst (λ x. backing r c s2 st x ≡ page bytes (2048 * x)) (sym (other g e))
              (q_behind (page_in rs g) (frame_listed c fit rs tab g gp old) (absent g gp) ∙ k.clean g gp old (ap changed (sym (get_or-set_other ks f g (16 * key) 0 e)) ∙ off))
        ];
        outside = λ q y e a.
            let t = absent_then q a in
            let qv = (fit.keys q y e).1 in
            q_behind q (listed c fit q qv) t.0 ∙ k.outside q y e (t.1 (real_page c fit q y e));
      }

  pub connected_counts : fixes_in rs f ≡ 0 → (fixes : List ℕ) → Counts c rs fixes → Counts c (set rs f come) fixes
  connected_counts unfixed fixes k = record {
    long = k.long;
    inside = λ g gp gn. elim (cases_eq g f) [
      | inl e ↦
          ap (λ x. get_or fixes x 0) (ap (page_in (set rs f come)) e ∙ here) ∙ k.outside p absent ∙ sym unfixed
          ∙ sym (ap (fixes_in (set rs f come)) e ∙ fixes_here rs f come fl)
      | inr e ↦ ap (λ x. get_or fixes x 0) (other g e) ∙ k.inside g gp (λ z. gn (other g e ∙ z)) ∙ sym (fixes_there rs f come g e)
    ];
    outside = λ q a. elim (cases_eq q no_page) [
      | inl z ↦ past q z
      | inr z ↦ k.outside q ((absent_then q a).1 z)
    ];
    same = k.same ∙ sym (counted_same _ _ c.supervisor (c.frames - c.supervisor) (λ g x y. ap (λ n. ltb 0 n) (fixes_kept rs f come refl g)));
  }
    where
      -- no page has the number for none
      past : (q : ℕ) → q ≡ no_page → get_or fixes q 0 ≡ 0
      past q z = Rattle.std.proofs.lemmas.List.get_or_past fixes q 0 (let l = k.long in let m = fit.most in omega arith)

-- A byte stored in frame f, and in the page that it has.
module _ {S : Type 0} (r : stores.Rules S) (c : Config) (fit : Fits c) (rs : List FrameRecord) (tab : Table c rs) (s : List ℕ)
    (ents : Entries c rs s) (f i v : ℕ) (fp : Pageable c f) (ne : page_in rs f ≡ no_page → ⊥) (il : i < 2048) where
  abbrev s1 : List ℕ
  s1 = set s (2048 * f + i) v

  pub stored_entries : Entries c rs s1
  stored_entries = record {
    long = b_long c fit s ents.long f i v fp il;
    segment = λ g h. b_segment c fit s ents.long f i v fp il g h ∙ ents.segment g h;
    supervisor = λ q h. ap (λ n. n / 2) (b_entry c fit s ents.long f i v fp il q (let a = fit.more in omega arith)) ∙ ents.supervisor q h;
    inside = λ g gp gn. ap (λ n. n / 2) (b_entry c fit s ents.long f i v fp il (page_in rs g) (frame_listed c fit rs tab g gp gn)) ∙ ents.inside g gp gn;
    outside = λ q y e a. ap (λ n. n / 2) (b_entry c fit s ents.long f i v fp il q (listed c fit q (fit.keys q y e).1)) ∙ ents.outside q y e a;
    unused = λ q qt lo e. ap (λ n. n / 2) (b_entry c fit s ents.long f i v fp il q qt) ∙ ents.unused q qt lo e;
  }

  -- a byte of the flat machine's page
  flat_same : (bytes : List ℕ) (p : ℕ) → page (set bytes (2048 * p + i) v) (2048 * p) ≡ set (page bytes (2048 * p)) i v
  flat_same bytes p = laws.pages.set_page bytes (2048 * p) i v il

  flat_other : (bytes : List ℕ) (p q : ℕ) → length bytes ≡ 2048 * c.pages → q < c.pages → (q ≡ p → ⊥) → page (set bytes (2048 * p + i) v) (2048 * q) ≡ page bytes (2048 * q)
  flat_other bytes p q l h np =
      elsewhere.page_other 1 (2048 * p + i) (2048 * q) _ _ (laws.beside.set_within bytes (2048 * p + i) v) (omega arith)
      (elim (cases_lt q p) [ inl z ↦ inl (omega arith) | inr z ↦ inr (omega arith) ])

  pub stored_content : (ks : List ℕ) (k256 : f < length ks) (new_key : ℕ) → changed new_key ≡ true → (st : S) (bytes : List ℕ) → Content r c rs ks st s bytes
      → Content r c rs (set ks f new_key) st s1 (set bytes (2048 * page_in rs f + i) v)
  stored_content ks k256 new_key on st bytes k =
      let p = page_in rs f in
      let n = tab.named f fp ne in
      let behind : (q : ℕ) → q < 32 * segments c → backing r c s1 st q ≡ backing r c s st q = λ q qt.
      ap (λ h. cond (eqb (h % 2) 1) zeros (r.slot st (q - c.supervisor))) (b_entry c fit s ents.long f i v fp il q qt) in
      let other_page : (g : ℕ) → Pageable c g → (page_in rs g ≡ no_page → ⊥) → (g ≡ f → ⊥) → page_in rs g ≡ p → ⊥ = λ g gp gn gf e. gf (tab.apart g f gp fp e gn) in
      let valid : (g : ℕ) → Pageable c g → (page_in rs g ≡ no_page → ⊥) → page_in rs g < c.pages = λ g gp gn. let m = tab.named g gp gn in (fit.keys _ m.0 m.1).1 in
      record {
        long = length-set bytes (2048 * p + i) v ∙ k.long;
        inside = λ g gp gn. elim (cases_eq g f) [
          | inl e ↦
              ap (λ x. page s1 (2048 * x)) e ∙ b_same c fit s ents.long f i v fp il ∙ ap (λ l. set l i v) (k.inside f fp ne)
              ∙ sym (flat_same bytes p) ∙ ap (λ x. page (set bytes (2048 * p + i) v) (2048 * page_in rs x)) (sym e)
          | inr e ↦
              b_other c fit s ents.long f i v fp il g gp.1 e ∙ k.inside g gp gn
              ∙ sym (flat_other bytes p (page_in rs g) k.long (valid g gp gn) (other_page g gp gn e))
        ];
        clean = λ g gp gn off. elim (cases_eq g f) [
          | inl e ↦ absurd (both_ways (changed (get_or (set ks f new_key) f 0)) (subst (λ x. changed (get_or (set ks f new_key) x 0) ≡ false) e off) (ap changed (get_or-set_same ks f new_key 0 k256) ∙ on))
          | inr e ↦
              behind (page_in rs g) (frame_listed c fit rs tab g gp gn) ∙ k.clean g gp gn (ap changed (sym (get_or-set_other ks f g new_key 0 e)) ∙ off)
              ∙ sym (flat_other bytes p (page_in rs g) k.long (valid g gp gn) (other_page g gp gn e))
        ];
        outside = λ q y e a.
            behind q (listed c fit q (fit.keys q y e).1) ∙ k.outside q y e a
            ∙ sym (flat_other bytes p q k.long (fit.keys q y e).1 (λ z. a f fp (sym z)));
      }

-- The count of frame f's page set to n, in the record and in the flat machine.
module _ (c : Config) (fit : Fits c) (rs : List FrameRecord) (tab : Table c rs) (fixes : List ℕ) (k : Counts c rs fixes) (f n : ℕ) (fp : Pageable c f)
    (ne : page_in rs f ≡ no_page → ⊥) where
  abbrev with_count : List FrameRecord
  with_count = set rs f (record { page = page_in rs f; fixes = n })

  row : f < length rs
  row = in_table c fit rs tab f fp.1

  pages_same : (g : ℕ) → page_in with_count g ≡ page_in rs g
  pages_same = pages_kept rs f _ refl

  p_fits : page_in rs f < length fixes
  p_fits = let m = tab.named f fp ne in let l = k.long in let h = (fit.keys _ m.0 m.1).1 in omega arith

  p_most : page_in rs f < 0 + c.pages
  p_most = let m = tab.named f fp ne in let h = (fit.keys _ m.0 m.1).1 in omega arith

  pub counted_to : fixed_pages (set fixes (page_in rs f) n) 0 c.pages ≡ fixed_in with_count c.supervisor (c.frames - c.supervisor) → Counts c with_count (set fixes (page_in rs f) n)
  counted_to same = record {
    long = length-set fixes (page_in rs f) n ∙ k.long;
    inside = λ g gp gn. elim (cases_eq g f) [
      | inl e ↦
          ap (λ x. get_or (set fixes (page_in rs f) n) x 0) (pages_same g ∙ ap (page_in rs) e) ∙ get_or-set_same fixes (page_in rs f) n 0 p_fits
          ∙ sym (ap (fixes_in with_count) e ∙ fixes_here rs f _ row)
      | inr e ↦
          let old : page_in rs g ≡ no_page → ⊥ = λ z. gn (pages_same g ∙ z) in
          ap (λ x. get_or (set fixes (page_in rs f) n) x 0) (pages_same g)
          ∙ get_or-set_other fixes (page_in rs f) (page_in rs g) n 0 (λ z. e (tab.apart g f gp fp z old)) ∙ k.inside g gp old ∙ sym (fixes_there rs f _ g e)
    ];
    outside = λ p a.
        get_or-set_other fixes (page_in rs f) p n 0 (λ z. a f fp (pages_same f ∙ sym z)) ∙ k.outside p (λ g gp is. a g gp (pages_same g ∙ is));
    same = same;
  }

  -- positive as before: both totals stay
  pub total_stays : ltb 0 n ≡ ltb 0 (fixes_in rs f) → fixed_pages (set fixes (page_in rs f) n) 0 c.pages ≡ fixed_in with_count c.supervisor (c.frames - c.supervisor)
  total_stays e =
      counted_same (λ q. ltb 0 (get_or fixes q 0)) (λ q. ltb 0 (get_or (set fixes (page_in rs f) n) q 0)) 0 c.pages (λ q a b. get_or-set_alike (λ x. ltb 0 x) fixes (page_in rs f) n 0 (e ∙ ap (λ x. ltb 0 x) (sym (k.inside f fp ne))) q)
      ∙ k.same
      ∙ sym (counted_same (λ g. ltb 0 (fixes_in rs g)) (λ g. ltb 0 (fixes_in with_count g)) c.supervisor (c.frames - c.supervisor) (λ g a b. get_or-set_alike (λ (x : FrameRecord). ltb 0 x.fixes) rs f _ vacant e g))

  f_in : (c.supervisor ≤ f) × (f < c.supervisor + (c.frames - c.supervisor))
  f_in = (fp.0, let a = fp.1 in let b = fit.some in omega arith)

  -- from 0 up: both totals rise by one
  pub total_rises : ltb 0 n ≡ true → ltb 0 (fixes_in rs f) ≡ false → fixed_pages (set fixes (page_in rs f) n) 0 c.pages ≡ fixed_in with_count c.supervisor (c.frames - c.supervisor)
  total_rises up was =
      let pages = counted_up (λ q. ltb 0 (get_or fixes q 0)) (λ q. ltb 0 (get_or (set fixes (page_in rs f) n) q 0)) 0 c.pages (page_in rs f) (omega arith) p_most
      (ap (λ x. ltb 0 x) (k.inside f fp ne) ∙ was) (ap (λ x. ltb 0 x) (get_or-set_same fixes (page_in rs f) n 0 p_fits) ∙ up)
      (λ q z. ap (λ x. ltb 0 x) (get_or-set_other fixes (page_in rs f) q n 0 z)) in
      let frames = counted_up (λ g. ltb 0 (fixes_in rs g)) (λ g. ltb 0 (fixes_in with_count g)) c.supervisor (c.frames - c.supervisor) f f_in.0 f_in.1
      was (ap (λ x. ltb 0 x) (fixes_here rs f _ row) ∙ up) (λ g z. ap (λ x. ltb 0 x) (fixes_there rs f _ g z)) in
      pages ∙ ap (λ x. x + 1) k.same ∙ sym frames

  -- down to 0: both totals fall by one
  pub total_falls : ltb 0 n ≡ false → ltb 0 (fixes_in rs f) ≡ true → fixed_pages (set fixes (page_in rs f) n) 0 c.pages ≡ fixed_in with_count c.supervisor (c.frames - c.supervisor)
  total_falls down was =
      let pages = counted_up (λ q. ltb 0 (get_or (set fixes (page_in rs f) n) q 0)) (λ q. ltb 0 (get_or fixes q 0)) 0 c.pages (page_in rs f) (omega arith) p_most
      (ap (λ x. ltb 0 x) (get_or-set_same fixes (page_in rs f) n 0 p_fits) ∙ down) (ap (λ x. ltb 0 x) (k.inside f fp ne) ∙ was)
      (λ q z. ap (λ x. ltb 0 x) (sym (get_or-set_other fixes (page_in rs f) q n 0 z))) in
      let frames = counted_up (λ g. ltb 0 (fixes_in with_count g)) (λ g. ltb 0 (fixes_in rs g)) c.supervisor (c.frames - c.supervisor) f f_in.0 f_in.1
      (ap (λ x. ltb 0 x) (fixes_here rs f _ row) ∙ down) was (λ g z. ap (λ x. ltb 0 x) (sym (fixes_there rs f _ g z))) in
      let s = k.same in
      omega (arith, pages, frames, s)
