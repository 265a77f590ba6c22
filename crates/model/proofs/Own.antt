-- The parts that are the machine's own, one by one: what keeps each of them.
use Rattle.std.proofs.Common.{◌≡◌, ℕ, ◌+◌, ◌-◌, ◌*◌, ◌/◌, ◌%◌, ◌<◌, ◌≤◌, ltb, ◌⊎◌, List, length, get_or, set, Some, None, Ok, Option, Result, sym, refl, ap, ◌∙◌, subst, inl, inr, arith}
use Rattle.std.proofs.lemmas.List.{get_or-set_same, get_or-set_other, length-set, set_past}
use Rattle.std.proofs.lemmas.Bool.{cases_eq, cases_lt, cond_both, eq-eqb, lt-ltb, ltb-false, ltb-true}
use Rattle.frames.specs.Keys.{access_of, reference_off, reference_on}
use Rattle.frames.specs.Policy as policies
use Rattle.model.specs.declared.shape.FrameRecord.{FrameRecord}
use Rattle.model.specs.Law.{Fits, Holding, Keyed, Pageable, Paired, Slots, Table}
use Rattle.model.specs.Layout.{controls_of, entry_at, entry_for, entry_should, fixes_in, frame_of, key_of, no_page, out_entry, page_in, segment_at, segment_entries, segment_word, segments, vacant}
use Rattle.model.specs.Steps.{change_off, change_on, put_out, read_in}
use Rattle.model.specs.World.{Config}
use Rattle.model.proofs.Place.{listed}
use Rattle.model.proofs.Walks.{Led, only_small, passes, small, small_named, walk_led, walks_to}
use Rattle.model.proofs.Find.{frame_some}
use Rattle.pages.specs.Store as stores
use Rattle.storage.specs.Bytes.{half, word}
use Rattle.tables.specs.declared.Controls.{Controls}
use Rattle.tables.specs.declared.Sizes.{Sizes}
use Rattle.tables.specs.Walk.{byte_index, checked, located, page_bytes, page_number, walk}
use Rattle.tables.proofs.Led.{located_at}
use Rattle.translation.specs.Translator as translators

-- One element changed to a value of which f says the same.
pub get_or-set_alike : {A B : Type 0} (f : A → B) (xs : List A) (i : ℕ) (v d : A) → f v ≡ f (get_or xs i d) → (j : ℕ) → f (get_or (set xs i v) j d) ≡ f (get_or xs j d)
get_or-set_alike f xs i v d e j = elim (cases_eq j i) [
  | inl q ↦ elim (cases_lt i (length xs)) [
    | inl l ↦ ap (λ k. f (get_or (set xs i v) k d)) q ∙ ap f (get_or-set_same xs i v d l) ∙ e ∙ ap (λ k. f (get_or xs k d)) (sym q)
    | inr l ↦ ap (λ ys. f (get_or ys j d)) (set_past xs i v l)
  ]
  | inr q ↦ ap f (get_or-set_other xs i j v d q)
]

-- One record changed.
module _ (rs : List FrameRecord) (f : ℕ) (v : FrameRecord) where
  pub page_here : f < length rs → page_in (set rs f v) f ≡ v.page
  page_here h = ap (λ (x : FrameRecord). x.page) (get_or-set_same rs f v vacant h)

  pub fixes_here : f < length rs → fixes_in (set rs f v) f ≡ v.fixes
  fixes_here h = ap (λ (x : FrameRecord). x.fixes) (get_or-set_same rs f v vacant h)

  pub page_there : (g : ℕ) → (g ≡ f → ⊥) → page_in (set rs f v) g ≡ page_in rs g
  page_there g ne = ap (λ (x : FrameRecord). x.page) (get_or-set_other rs f g v vacant ne)

  pub fixes_there : (g : ℕ) → (g ≡ f → ⊥) → fixes_in (set rs f v) g ≡ fixes_in rs g
  fixes_there g ne = ap (λ (x : FrameRecord). x.fixes) (get_or-set_other rs f g v vacant ne)

  -- to one with the same page, or the same count
  pub pages_kept : v.page ≡ page_in rs f → (g : ℕ) → page_in (set rs f v) g ≡ page_in rs g
  pages_kept = get_or-set_alike (λ (x : FrameRecord). x.page) rs f v vacant

  pub fixes_kept : v.fixes ≡ fixes_in rs f → (g : ℕ) → fixes_in (set rs f v) g ≡ fixes_in rs g
  fixes_kept = get_or-set_alike (λ (x : FrameRecord). x.fixes) rs f v vacant

-- A page of a partition is not the number for none.
pub real_page : (c : Config) → Fits c → (p key : ℕ) → key_of c.partitions p ≡ Some key → p ≡ no_page → ⊥
real_page c fit p key e z = let k = fit.keys p key e in let l = k.1 in let m = fit.most in omega arith

module _ (c : Config) (fit : Fits c) (rs : List FrameRecord) (t : Table c rs) where
  -- the page that a frame has is listed in the tables
  pub frame_listed : (f : ℕ) → Pageable c f → (page_in rs f ≡ no_page → ⊥) → page_in rs f < 32 * segments c
  frame_listed f fp ne = let n = t.named f fp ne in listed c fit _ (fit.keys _ n.0 n.1).1

  pub in_table : (f : ℕ) → f < c.frames → f < length rs
  in_table f h = let l = t.long in let k = fit.few in omega arith

  -- one record changed: to none, or to a partition page that no other frame has
  pub table_put : (f : ℕ) (v : FrameRecord) → Pageable c f
      → ((v.page ≡ no_page → ⊥) → (key : ℕ) × (key_of c.partitions v.page ≡ Some key))
      → (v.page ≡ no_page → v.fixes ≡ 0)
      → ((v.page ≡ no_page → ⊥) → (g : ℕ) → Pageable c g → (g ≡ f → ⊥) → page_in rs g ≡ v.page → ⊥)
      → Table c (set rs f v)
  table_put f v fp nm vc alone =
      let fl = in_table f fp.1 in
      let here = page_here rs f v fl in
      let there = page_there rs f v in
      record {
        long = length-set rs f v ∙ t.long;
        supervisor = λ g h. let a = fp.0 in there g (λ e. omega arith) ∙ t.supervisor g h;
        named = λ g gp ne. elim (cases_eq g f) [
          | inl e ↦
              let same : page_in (set rs f v) g ≡ v.page = ap (page_in (set rs f v)) e ∙ here in
              let k = nm (λ z. ne (same ∙ z)) in
              (k.0, ap (key_of c.partitions) same ∙ k.1)
          | inr e ↦
              let k = t.named g gp (λ z. ne (there g e ∙ z)) in
              (k.0, ap (key_of c.partitions) (there g e) ∙ k.1)
        ];
        unfixed = λ g h. let a = fp.0 in fixes_there rs f v g (λ e. omega arith) ∙ t.unfixed g h;
        past = λ g h. let a = fp.1 in get_or-set_other rs f g v vacant (λ e. omega arith) ∙ t.past g h;
        unused = λ g gp none. elim (cases_eq g f) [
          | inl e ↦ ap (fixes_in (set rs f v)) e ∙ fixes_here rs f v fl ∙ vc (sym (ap (page_in (set rs f v)) e ∙ here) ∙ none)
          | inr e ↦ fixes_there rs f v g e ∙ t.unused g gp (sym (there g e) ∙ none)
        ];
        apart = λ g h gp hp same ne. elim (cases_eq g f) [
          | inl e ↦ elim (cases_eq h f) [
            | inl d ↦ e ∙ sym d
            | inr d ↦
                let gv : page_in (set rs f v) g ≡ v.page = ap (page_in (set rs f v)) e ∙ here in
                absurd (alone (λ z. ne (gv ∙ z)) h hp d (sym (there h d) ∙ sym same ∙ gv))
          ]
          | inr e ↦ elim (cases_eq h f) [
            | inl d ↦
                let hv : page_in (set rs f v) h ≡ v.page = ap (page_in (set rs f v)) d ∙ here in
                absurd (alone (λ z. ne (same ∙ hv ∙ z)) g gp e (sym (there g e) ∙ same ∙ hv))
            | inr d ↦ t.apart g h gp hp (sym (there g e) ∙ same ∙ there h d) (λ z. ne (there g e ∙ z))
          ]
        ];
      }

  -- the count of a frame with a page changed
  pub table_count : (f n : ℕ) → Pageable c f → (page_in rs f ≡ no_page → ⊥) → Table c (set rs f (record { page = page_in rs f; fixes = n }))
  table_count f n fp ne =
      table_put f (record { page = page_in rs f; fixes = n }) fp (t.named f fp) (λ z. absurd (ne z))
      (λ _ g gp gf same. gf (t.apart g f gp fp same (λ z. ne (sym same ∙ z))))

-- Storage keys.
module _ (c : Config) (fit : Fits c) (rs : List FrameRecord) (ks : List ℕ) (k : Keyed c rs ks) where
  pub in_keys : (f : ℕ) → f < c.frames → f < length ks
  in_keys f h = let l = k.long in let n = fit.few in omega arith

  -- access keys that stay
  pub keyed_keys : (new : List ℕ) → length new ≡ length ks → ((g : ℕ) → access_of (get_or new g 0) ≡ access_of (get_or ks g 0)) → Keyed c rs new
  keyed_keys new l same = record {
    long = l ∙ k.long;
    access = λ g key gp e. same g ∙ k.access g key gp e;
  }

  -- one record changed, with the key of its frame
  pub keyed_put : (f : ℕ) (v : FrameRecord) → f < length rs
      → ((key : ℕ) → key_of c.partitions v.page ≡ Some key → access_of (get_or ks f 0) ≡ key) → Keyed c (set rs f v) ks
  keyed_put f v fl h = record {
    long = k.long;
    access = λ g key gp e. elim (cases_eq g f) [
      | inl q ↦ ap (λ x. access_of (get_or ks x 0)) q ∙ h key (sym (ap (λ x. key_of c.partitions x) (ap (page_in (set rs f v)) q ∙ page_here rs f v fl)) ∙ e)
      | inr q ↦ k.access g key gp (sym (ap (key_of c.partitions) (page_there rs f v g q)) ∙ e)
    ];
  }

-- Bits of a key do not reach its access key, nor one bit the other.
pub access_off : (key : ℕ) → access_of (reference_off key) ≡ access_of key
access_off key = omega arith

pub access_on : (key : ℕ) → access_of (reference_on key) ≡ access_of key
access_on key = omega arith

pub access_change_on : (key : ℕ) → access_of (change_on key) ≡ access_of key
access_change_on key = omega arith

pub access_change_off : (key : ℕ) → access_of (change_off key) ≡ access_of key
access_change_off key = omega arith

-- Take keeps of every key what f reads of it, where f does not read the reference bit.
pub taken_alike : {A : Type 0} (f : ℕ → A) → ((key : ℕ) → f (reference_off key) ≡ f key) → (ks new : List ℕ) → policies.KeysKept ks new
    → (g : ℕ) → f (get_or new g 0) ≡ f (get_or ks g 0)
taken_alike f off ks new k g = elim (k.each g) [ inl e ↦ ap f e | inr e ↦ ap f e ∙ off (get_or ks g 0) ]

-- Holdings.
pub holding_same : {P : Type 0} (r : policies.Rules P) (c : Config) (rs new : List FrameRecord) (m n : P) → Holding r c rs m
    → ((g : ℕ) → r.times n g ≡ r.times m g) → ((g : ℕ) → fixes_in new g ≡ fixes_in rs g) → Holding r c new n
holding_same r c rs new m n h same fixes = record {
  free = λ g gp e. same g ∙ h.free g gp (sym (fixes g) ∙ e);
  fixed = λ g gp l. same g ∙ h.fixed g gp (subst (λ x. 0 < x) (fixes g) l);
  other = λ g o. same g ∙ h.other g o;
}

-- Pairs.
module _ {T : Type 0} (r : translators.Rules T) (c : Config) (rs : List FrameRecord) where
  pub paired_same : (new : List FrameRecord) (t : T) → Paired r c rs t → ((g : ℕ) → page_in new g ≡ page_in rs g) → Paired r c new t
  paired_same new t k same = record {
    words = k.words;
    each = λ p start v. let e = k.each p start v in (e.0, e.1, same e.0 ∙ e.2, e.3, e.4);
  }

-- Slots.
pub usable_passes : {S : Type 0} (r : stores.Rules S) (m : S) (k n : ℕ) → stores.Usable r m k → n ≡ 2048 → stores.refusal_at r m k n ≡ None
usable_passes r m k n u l = simp (eq-eqb n 2048 l, lt-ltb k (r.count m) u.0, u.1)

-- a page put out to a slot that can be used, and a slot read
pub put_out_lem : {S : Type 0} (r : stores.Rules S) (m : S) (k : ℕ) (page : List ℕ) → stores.Usable r m k → length page ≡ 2048 → put_out r m k page ≡ r.write m k page
put_out_lem r m k page u l = ap (stores.written r m k page) (usable_passes r m k (length page) u l)

pub read_in_lem : {S : Type 0} (r : stores.Rules S) (m : S) (k : ℕ) (buffer : List ℕ) → stores.Usable r m k → length buffer ≡ 2048 → read_in r m k buffer ≡ r.slot m k
read_in_lem r m k buffer u l = ap (stores.read_into r m k buffer) (usable_passes r m k (length buffer) u l)

module _ {S : Type 0} (r : stores.Rules S) (law : stores.Lawful r) (c : Config) (m : S) (good : r.good m) (slots : Slots r c m) where
  pub slots_put : (k : ℕ) (page : List ℕ) → k < c.pages - c.supervisor → length page ≡ 2048 → Slots r c (put_out r m k page) × r.good (put_out r m k page)
  slots_put k page h l =
      let u = slots k h in
      let e = put_out_lem r m k page u l in (
        (λ j jh. let v = slots j jh in
            subst (λ x. stores.Usable r x j) (sym e)
            (subst (λ n. j < n) (sym (law.write_count m k page good u l)) v.0, law.write_bad m k page j good u l ∙ v.1)),
        subst r.good (sym e) (law.write_good m k page good u l),
      )

-- The translator, asked for an address whose page is in frame f.
module _ {T : Type 0} (r : translators.Rules T) (law : translators.Lawful r) (c : Config) (fit : Fits c) (rs : List FrameRecord) (tab : Table c rs)
    (t : T) (good : r.good t) (k : Paired r c rs t) (s : List ℕ) (long : length s ≡ 2048 * c.frames) where
  module _ (a f key : ℕ) (part : key_of c.partitions (a / 2048) ≡ Some key) (fp : Pageable c f) (has : page_in rs f ≡ a / 2048)
      (seg : word s (segment_at (a / 2048 / 32)) ≡ segment_word c (a / 2048 / 32)) (ent : half s (entry_at (a / 2048)) / 2 ≡ 4 * f) where
    inside : (c.supervisor ≤ a / 2048) × (a / 2048 < c.pages) × (key ≤ 15)
    inside = fit.keys (a / 2048) key part

    same_frame : (g : ℕ) → g < c.frames → page_in rs g ≡ a / 2048 → g ≡ f
    same_frame g h e = elim (cases_lt g c.supervisor) [
      | inl l ↦ let q = tab.supervisor g l in let i = inside.0 in absurd (omega arith)
      | inr l ↦ tab.apart g f (l, h) fp (e ∙ sym has) (λ z. real_page c fit (a / 2048) key part (sym e ∙ z))
    ]

    passed : checked (r.controls t) a ≡ Ok small
    passed = ap (λ (w : Controls). checked w a) k.words ∙ passes c a (let i = inside.1 in let m = fit.most in omega arith)

    byte_is : byte_index small a ≡ a % 2048
    byte_is = omega arith

    placed : located s (2048 * f) (byte_index small a) ≡ Ok (2048 * f + a % 2048)
    placed = ap (located s (2048 * f)) byte_is ∙ located_at s (2048 * f) (a % 2048) (let h = fp.1 in omega arith)

    by_any : translators.ByPair r t s a small (r.translate t s a).answer ⊎ translators.ByWalk r t s a small (r.translate t s a).answer
        → (r.translate t s a).answer ≡ Ok (2048 * f + a % 2048)
    by_any (inl p) =
        let e = k.each (a / 2048) p.start p.paired in
        p.answered ∙ ap (λ n. located s n (byte_index small a)) (e.4 ∙ ap (λ g. 2048 * g) (same_frame e.0 e.1 e.2)) ∙ placed
    by_any (inr w) =
        w.answered ∙ ap (λ (x : Controls). walk s x a) k.words ∙ walks_to c fit s long a f inside.1 fp.1 seg ent

    pub real_is : (r.translate t s a).answer ≡ Ok (2048 * f + a % 2048)
    real_is = by_any (subst (λ q. translators.Answers r t s a q (r.translate t s a).answer) passed (law.translate_answer t s a good))

    just : (p start : ℕ) → translators.Just (r.controls t) a p start (r.translate t s a).answer
        → (g : ℕ) × (g < c.frames) × (page_in rs g ≡ p) × (p < c.pages) × (start ≡ 2048 * g)
    just p start j =
        let z = only_small c a j.sizes (sym (ap (λ (w : Controls). checked w a) k.words) ∙ j.passed) in
        let pa : p ≡ a / 2048 = j.page_is ∙ ap (λ (y : Sizes). page_number y a) z in
        let both : ◌≡◌ {A = Result ℕ _} (Ok (start + byte_index j.sizes a)) (Ok (2048 * f + a % 2048)) = sym j.answered ∙ real_is in
        let num : start + byte_index j.sizes a ≡ 2048 * f + a % 2048 = cc in
        let b : byte_index j.sizes a ≡ a % 2048 = ap (λ (y : Sizes). byte_index y a) z ∙ byte_is in
        let i = inside.1 in
        (f, fp.1, has ∙ sym pa, subst (λ n. n < c.pages) (sym pa) i, omega arith)

    pub asked_paired : Paired r c rs (r.translate t s a).left
    asked_paired = record {
      words = law.translate_controls t s a good ∙ k.words;
      each = λ p start v. elim (law.translate_pairs t s a p start good v) [ inl o ↦ k.each p start o | inr j ↦ just p start j ];
    }

-- A pair that agrees with the walk on tables that are what they should be.
module _ (c : Config) (fit : Fits c) (rs : List FrameRecord) (tab : Table c rs) (s : List ℕ) (long : length s ≡ 2048 * c.frames)
    (segs : (g : ℕ) → g < segment_entries c → word s (segment_at g) ≡ segment_word c g)
    (ents : (q : ℕ) → q < 32 * segments c → half s (entry_at q) / 2 ≡ entry_should c s rs q / 2) where
  abbrev Framed : ℕ → ℕ → Type 0
  Framed p start = (f : ℕ) × (f < c.frames) × (page_in rs f ≡ p) × (p < c.pages) × (start ≡ 2048 * f)

  from_frame : (p key start : ℕ) (o : Option ℕ) → key_of c.partitions p ≡ Some key → frame_of c s rs p ≡ o
      → half s (entry_at p) / 2 ≡ entry_for key o / 2 → Led c fit s long p start → Framed p start
  from_frame p key start (Some f) part e h l =
      let k = frame_some c s rs fit.some p f e in
      let st = l.starts in
      let n = fit.few in
      let fn = k.0.1 in
      (f, k.0.1, k.1, (fit.keys p key part).1, omega arith)
  from_frame p key start None part e h l = let v = l.valid in absurd (omega arith)

  from_key : (p start : ℕ) (o : Option ℕ) → c.supervisor ≤ p → key_of c.partitions p ≡ o → half s (entry_at p) / 2 ≡ out_entry c s rs p o / 2
      → Led c fit s long p start → Framed p start
  from_key p start None low e h l = let v = l.valid in absurd (omega arith)
  from_key p start (Some key) low e h l = from_frame p key start (frame_of c s rs p) e refl h l

  pub led_frame : (p start : ℕ) → Led c fit s long p start → Framed p start
  led_frame p start l =
      cond_both (ltb p c.supervisor) (8 * p + 1) (out_entry c s rs p (key_of c.partitions p)) (λ e. half s (entry_at p) / 2 ≡ e / 2 → Framed p start)
      (λ t e.
      let lo = ltb-true _ _ t in
      let st = l.starts in
      let m = fit.some in
      let n = fit.more in
      let w = fit.few in
      (p, omega arith, tab.supervisor p lo, omega arith, omega arith))
      (λ t e. from_key p start (key_of c.partitions p) (ltb-false _ _ t) refl e l)
      (ents p l.listed)

  pub agrees_frame : (p start : ℕ) → translators.Agrees s (controls_of c) p start → Framed p start
  agrees_frame p start g =
      let n = g.named in
      let m = small_named c in
      let both : Some g.sizes ≡ Some small = sym n ∙ m in
      let z : g.sizes ≡ small = cc in
      led_frame p start (walk_led c fit s long segs p start (subst (λ (y : Sizes). walk s (controls_of c) (p * page_bytes y.page) ≡ Ok start) z g.walked))
