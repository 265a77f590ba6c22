-- What ties main storage, the tables and the slots to the flat machine's bytes and counts; and what keeps it, step by step.
use Rattle.std.proofs.Common.{◌≡◌, ℕ, ◌+◌, ◌-◌, ◌*◌, ◌/◌, ◌%◌, ◌^◌, ◌<◌, ◌≤◌, true, false, cond, eqb, ltb, ◌⊎◌, List, length, get_or, set, Some, None, sym, refl, ap, ◌∙◌, subst, inl, inr, arith}
use Rattle.std.proofs.lemmas.List.{get_or-set_other}
use Rattle.std.proofs.lemmas.Bool.{cases_eq, cond-false, cond-true, eq-eqb, ne_eqb}
use Rattle.frames.specs.Keys.{access_of, changed, reference_off, reference_on}
use Rattle.model.specs.declared.shape.FrameRecord.{FrameRecord}
use Rattle.model.specs.Flat.{fixed_pages}
use Rattle.model.specs.Law.{Fits, Keyed, Pageable, Slots, Table}
use Rattle.model.specs.Layout.{bit15, entry_at, fixed_in, fixes_in, key_of, no_page, page_in, segment_at, segment_entries, segment_word, segments}
use Rattle.model.specs.Steps.{change_off, change_on, put_out}
use Rattle.model.specs.Tests.{Absent, Entries}
use Rattle.model.specs.World.{Config}
use Rattle.model.proofs.Find.{counted_same}
use Rattle.model.proofs.Own.{fixes_kept, fixes_there, frame_listed, in_table, page_here, page_there, put_out_lem}
use Rattle.model.proofs.Place.{e_frame, e_long, e_other, e_same, e_segment, frame_fits}
use Rattle.pages.specs.Store as stores
use Rattle.storage.specs.Bytes.{half, page, put_half, word, zeros}
use Rattle.storage.specs.Over.{laws}

-- What stands behind a page: zeros where it was never written out, else its slot.
abbrev pub backing : {S : Type 0} → stores.Rules S → Config → List ℕ → S → ℕ → List ℕ
backing r c s st p = cond (eqb (bit15 s p) 1) zeros (r.slot st (p - c.supervisor))

-- The bytes of every page stand in its frame, and behind it where it has no frame or is not changed.
pub record Content {S : Type 0} (r : stores.Rules S) (c : Config) (rs : List FrameRecord) (ks : List ℕ) (st : S) (s bytes : List ℕ) : Type 0 where
  pub long : length bytes ≡ 2048 * c.pages
  pub inside : (f : ℕ) → Pageable c f → (page_in rs f ≡ no_page → ⊥) → page s (2048 * f) ≡ page bytes (2048 * page_in rs f)
  pub clean : (f : ℕ) → Pageable c f → (page_in rs f ≡ no_page → ⊥) → changed (get_or ks f 0) ≡ false → backing r c s st (page_in rs f) ≡ page bytes (2048 * page_in rs f)
  pub outside : (p key : ℕ) → key_of c.partitions p ≡ Some key → Absent c rs p → backing r c s st p ≡ page bytes (2048 * p)

-- The fix count of a page is that of its frame, or 0; and as many pages are fixed as frames have fixed pages.
pub record Counts (c : Config) (rs : List FrameRecord) (fixes : List ℕ) : Type 0 where
  pub long : length fixes ≡ c.pages
  pub inside : (f : ℕ) → Pageable c f → (page_in rs f ≡ no_page → ⊥) → get_or fixes (page_in rs f) 0 ≡ fixes_in rs f
  pub outside : (p : ℕ) → Absent c rs p → get_or fixes p 0 ≡ 0
  pub same : fixed_pages fixes 0 c.pages ≡ fixed_in rs c.supervisor (c.frames - c.supervisor)

-- The change bit is not reached by the reference bit.
pub changed_off : (key : ℕ) → changed (reference_off key) ≡ changed key
changed_off key = ap (λ n. eqb n 1) (let e : (key - 4 * (key / 4 % 2)) / 2 % 2 ≡ key / 2 % 2 = omega arith in e)

pub changed_on : (key : ℕ) → changed (reference_on key) ≡ changed key
changed_on key = ap (λ n. eqb n 1) (let e : (key + 4 * (1 - key / 4 % 2)) / 2 % 2 ≡ key / 2 % 2 = omega arith in e)

pub change_on_lem : (key : ℕ) → changed (change_on key) ≡ true
change_on_lem key = eq-eqb _ _ (let e : (key + 2 * (1 - key / 2 % 2)) / 2 % 2 ≡ 1 = omega arith in e)

pub change_off_lem : (key : ℕ) → changed (change_off key) ≡ false
change_off_lem key = ne_eqb _ _ (λ z. let e : (key - 2 * (key / 2 % 2)) / 2 % 2 ≡ 0 = omega arith in omega arith)

-- Bit 15 is 0 or 1.
pub bit_is : (h : ℕ) → (h % 2 ≡ 0) ⊎ (h % 2 ≡ 1)
bit_is h = elim (cases_eq (h % 2) 0) [ inl e ↦ inl e | inr e ↦ inr (omega arith) ]

module _ {S : Type 0} (r : stores.Rules S) (law : stores.Lawful r) (c : Config) (fit : Fits c) where
  -- other keys with the same change bits
  pub content_keys : (rs : List FrameRecord) (ks new : List ℕ) (st : S) (s bytes : List ℕ) → Content r c rs ks st s bytes
      → ((g : ℕ) → changed (get_or new g 0) ≡ changed (get_or ks g 0)) → Content r c rs new st s bytes
  content_keys rs ks new st s bytes k same = record {
    long = k.long;
    inside = k.inside;
    outside = k.outside;
    clean = λ f fp ne off. k.clean f fp ne (sym (same f) ∙ off);
  }

  -- other records with the same pages
  pub content_pages : (rs new : List FrameRecord) (ks : List ℕ) (st : S) (s bytes : List ℕ) → Content r c rs ks st s bytes
      → ((g : ℕ) → page_in new g ≡ page_in rs g) → Content r c new ks st s bytes
  content_pages rs new ks st s bytes k same = record {
    long = k.long;
    inside = λ f fp ne. k.inside f fp (λ z. ne (same f ∙ z)) ∙ ap (λ p. page bytes (2048 * p)) (sym (same f));
    clean = λ f fp ne off. subst (λ p. backing r c s st p ≡ page bytes (2048 * p)) (sym (same f)) (k.clean f fp (λ z. ne (same f ∙ z)) off);
    outside = λ p key e absent. k.outside p key e (λ g gp is. absent g gp (same g ∙ is));
  }

  -- a page of f put out to its slot
  module _ (st : S) (good : r.good st) (slots : Slots r c st) (q key : ℕ) (part : key_of c.partitions q ≡ Some key) (bytes : List ℕ) (l : length bytes ≡ 2048) where
    usable : (p y : ℕ) → key_of c.partitions p ≡ Some y → stores.Usable r st (p - c.supervisor)
    usable p y e = let k = fit.keys p y e in let a = k.0 in let b = k.1 in slots (p - c.supervisor) (omega arith)

    pub out_same : r.slot (put_out r st (q - c.supervisor) bytes) (q - c.supervisor) ≡ bytes
    out_same =
        ap (λ m. r.slot m (q - c.supervisor)) (put_out_lem r st (q - c.supervisor) bytes (usable q key part) l)
        ∙ law.write_slot st (q - c.supervisor) bytes (q - c.supervisor) good (usable q key part) (usable q key part) l
        ∙ cond-true _ bytes (r.slot st (q - c.supervisor)) (eq-eqb (q - c.supervisor) (q - c.supervisor) refl)

    pub out_other : (p y : ℕ) → key_of c.partitions p ≡ Some y → (p ≡ q → ⊥)
        → r.slot (put_out r st (q - c.supervisor) bytes) (p - c.supervisor) ≡ r.slot st (p - c.supervisor)
    out_other p y e ne =
        ap (λ m. r.slot m (p - c.supervisor)) (put_out_lem r st (q - c.supervisor) bytes (usable q key part) l)
        ∙ law.write_slot st (q - c.supervisor) bytes (p - c.supervisor) good (usable q key part) (usable p y e) l
        ∙ cond-false _ bytes (r.slot st (p - c.supervisor)) (ne_eqb _ _ (λ z. let a = (fit.keys p y e).0 in let b = (fit.keys q key part).0 in ne (omega arith)))

-- Other records with the same pages.
pub entries_pages : (c : Config) (rs new : List FrameRecord) (s : List ℕ) → Entries c rs s → ((g : ℕ) → page_in new g ≡ page_in rs g) → Entries c new s
entries_pages c rs new s k same = record {
  long = k.long;
  segment = k.segment;
  supervisor = k.supervisor;
  unused = k.unused;
  inside = λ f fp ne. ap (λ p. half s (entry_at p) / 2) (same f) ∙ k.inside f fp (λ z. ne (same f ∙ z));
  outside = λ p key e absent. k.outside p key e (λ g gp is. absent g gp (same g ∙ is));
}

-- A page entry of a frame's page rewritten with its frame or its key: the page goes out of frame f, or only bit 15 changes.
module _ {S : Type 0} (r : stores.Rules S) (law : stores.Lawful r) (c : Config) (fit : Fits c) (rs : List FrameRecord) (tab : Table c rs) (s : List ℕ)
    (ents : Entries c rs s) (f : ℕ) (fp : Pageable c f) (ne : page_in rs f ≡ no_page → ⊥) where
  abbrev q : ℕ
  q = page_in rs f

  key_of_lem : (key : ℕ) × (key_of c.partitions q ≡ Some key)
  key_of_lem = tab.named f fp ne

  q_in : (c.supervisor ≤ q) × (q < c.pages) × (key_of_lem.0 ≤ 15)
  q_in = fit.keys q key_of_lem.0 key_of_lem.1

  pub q_listed : q < 32 * segments c
  q_listed = frame_listed c fit rs tab f fp ne

  fl : f < length rs
  fl = in_table c fit rs tab f fp.1

  -- the page of another frame is another page
  other_page : (g : ℕ) → Pageable c g → (page_in rs g ≡ no_page → ⊥) → (g ≡ f → ⊥) → page_in rs g ≡ q → ⊥
  other_page g gp gn gf e = gf (tab.apart g f gp fp e gn)

  -- vacated: the record names no page
  abbrev gone : FrameRecord
  gone = record { page = no_page; fixes = fixes_in rs f }

  gone_page : (g : ℕ) → (page_in (set rs f gone) g ≡ no_page → ⊥) → g ≡ f → ⊥
  gone_page g gn e = gn (ap (page_in (set rs f gone)) e ∙ page_here rs f gone fl)

  gone_absent : (p : ℕ) → (p ≡ q → ⊥) → Absent c (set rs f gone) p → Absent c rs p
  gone_absent p np absent g gp is = elim (cases_eq g f) [
    | inl e ↦ np (sym is ∙ ap (page_in rs) e)
    | inr e ↦ absent g gp (page_there rs f gone g e ∙ is)
  ]

  module _ (bit : ℕ) (b1 : bit ≤ 1) (ks : List ℕ) (keyed : Keyed c rs ks) where
    abbrev out : ℕ
    out = 4 + 16 * access_of (get_or ks f 0) + bit

    access_is : access_of (get_or ks f 0) ≡ key_of_lem.0
    access_is = keyed.access f key_of_lem.0 fp key_of_lem.1

    small : out < 2 ^ 16
    small = let a = access_is in let b = q_in.2 in omega arith

    pub vacated_entries : Entries c (set rs f gone) (put_half s (entry_at q) out)
    vacated_entries = record {
      long = e_long c fit s ents.long q out q_listed;
      segment = λ g h. e_segment c fit s ents.long q out q_listed g h ∙ ents.segment g h;
      supervisor = λ p h. ap (λ n. n / 2) (e_other c fit s ents.long q out q_listed p (λ e. let a = q_in.0 in omega arith)) ∙ ents.supervisor p h;
      inside = λ g gp gn.
          let gf = gone_page g gn in
          let same = page_there rs f gone g gf in
          let old : page_in rs g ≡ no_page → ⊥ = λ z. gn (same ∙ z) in
          ap (λ p. half (put_half s (entry_at q) out) (entry_at p) / 2) same
          ∙ ap (λ n. n / 2) (e_other c fit s ents.long q out q_listed (page_in rs g) (other_page g gp old gf)) ∙ ents.inside g gp old;
      outside = λ p key e absent. elim (cases_eq p q) [
        | inl z ↦
            let both : Some key ≡ Some key_of_lem.0 = sym e ∙ ap (key_of c.partitions) z ∙ key_of_lem.1 in
            let ky : key ≡ key_of_lem.0 = cc in
            let a = access_is in
            ap (λ x. half (put_half s (entry_at q) out) (entry_at x) / 2) z ∙ ap (λ n. n / 2) (e_same c fit s ents.long q out q_listed small)
            ∙ (let v : out / 2 ≡ 2 + 8 * key = omega arith in v)
        | inr z ↦ ap (λ n. n / 2) (e_other c fit s ents.long q out q_listed p z) ∙ ents.outside p key e (gone_absent p z absent)
      ];
      unused = λ p pt lo e.
          ap (λ n. n / 2) (e_other c fit s ents.long q out q_listed p (λ z. cc key_of_lem.1)) ∙ ents.unused p pt lo e;
    }

    pub vacated_bit : bit15 (put_half s (entry_at q) out) q ≡ bit
    vacated_bit = ap (λ n. n % 2) (e_same c fit s ents.long q out q_listed small) ∙ (let v : out % 2 ≡ bit = omega arith in v)

    pub vacated_content : (st new : S) (bytes : List ℕ) → Content r c rs ks st s bytes
        → ((p y : ℕ) → key_of c.partitions p ≡ Some y → (p ≡ q → ⊥) → r.slot new (p - c.supervisor) ≡ r.slot st (p - c.supervisor))
        → backing r c (put_half s (entry_at q) out) new q ≡ page bytes (2048 * q)
        → Content r c (set rs f gone) ks new (put_half s (entry_at q) out) bytes
    vacated_content st new bytes k others here =
        let other : (p y : ℕ) → key_of c.partitions p ≡ Some y → (p ≡ q → ⊥) → backing r c (put_half s (entry_at q) out) new p ≡ backing r c s st p = λ p y e np.
        ap (λ n. cond (eqb (n % 2) 1) zeros (r.slot new (p - c.supervisor))) (e_other c fit s ents.long q out q_listed p np)
        ∙ ap (λ x. cond (eqb (bit15 s p) 1) zeros x) (others p y e np) in
        record {
          long = k.long;
          inside = λ g gp gn.
              let gf = gone_page g gn in
              let same = page_there rs f gone g gf in
              e_frame c fit s ents.long q out q_listed g gp ∙ k.inside g gp (λ z. gn (same ∙ z)) ∙ ap (λ p. page bytes (2048 * p)) (sym same);
          clean = λ g gp gn off.
              let gf = gone_page g gn in
              let same = page_there rs f gone g gf in
              let old : page_in rs g ≡ no_page → ⊥ = λ z. gn (same ∙ z) in
              let n = tab.named g gp old in
              subst (λ p. backing r c (put_half s (entry_at q) out) new p ≡ page bytes (2048 * p)) (sym same)
              (other (page_in rs g) n.0 n.1 (other_page g gp old gf) ∙ k.clean g gp old off);
          outside = λ p y e absent. elim (cases_eq p q) [
            | inl z ↦ subst (λ x. backing r c (put_half s (entry_at q) out) new x ≡ page bytes (2048 * x)) (sym z) here
            | inr z ↦ other p y e z ∙ k.outside p y e (gone_absent p z absent)
          ];
        }

  pub vacated_counts : fixes_in rs f ≡ 0 → (fixes : List ℕ) → Counts c rs fixes → Counts c (set rs f gone) fixes
  vacated_counts unfixed fixes k = record {
    long = k.long;
    inside = λ g gp gn.
        let gf = gone_page g gn in
        let same = page_there rs f gone g gf in
        ap (λ p. get_or fixes p 0) same ∙ k.inside g gp (λ z. gn (same ∙ z)) ∙ sym (fixes_there rs f gone g gf);
    outside = λ p absent. elim (cases_eq p q) [
      | inl z ↦ ap (λ x. get_or fixes x 0) z ∙ k.inside f fp ne ∙ unfixed
      | inr z ↦ k.outside p (gone_absent p z absent)
    ];
    same = k.same ∙ sym (counted_same _ _ c.supervisor (c.frames - c.supervisor) (λ g a b. ap (λ n. ltb 0 n) (fixes_kept rs f gone refl g)));
  }

  -- settled: bit 15 of the page's entry goes off, and the page is put out
  abbrev off15 : ℕ
  off15 = 2 * (half s (entry_at q) / 2)

  off_small : off15 < 2 ^ 16
  off_small = let e = ents.inside f fp ne in let a = fp.1 in let n = fit.few in omega arith

  pub settled_entries : Entries c rs (put_half s (entry_at q) off15)
  settled_entries =
      let every : (p : ℕ) → half (put_half s (entry_at q) off15) (entry_at p) / 2 ≡ half s (entry_at p) / 2 = λ p. elim (cases_eq p q) [
        | inl z ↦ ap (λ x. half (put_half s (entry_at q) off15) (entry_at x) / 2) z ∙ ap (λ n. n / 2) (e_same c fit s ents.long q off15 q_listed off_small)
            ∙ (let v : off15 / 2 ≡ half s (entry_at q) / 2 = omega arith in v) ∙ ap (λ x. half s (entry_at x) / 2) (sym z)
        | inr z ↦ ap (λ n. n / 2) (e_other c fit s ents.long q off15 q_listed p z)
      ] in
      record {
        long = e_long c fit s ents.long q off15 q_listed;
        segment = λ g h. e_segment c fit s ents.long q off15 q_listed g h ∙ ents.segment g h;
        supervisor = λ p h. every p ∙ ents.supervisor p h;
        inside = λ g gp gn. every (page_in rs g) ∙ ents.inside g gp gn;
        outside = λ p key e absent. every p ∙ ents.outside p key e absent;
        unused = λ p pt lo e. every p ∙ ents.unused p pt lo e;
      }

  module _ (ks : List ℕ) (kl : f < length ks) (st : S) (good : r.good st) (slots : Slots r c st) (bytes : List ℕ) (k : Content r c rs ks st s bytes) where
    abbrev settled_store : S
    settled_store = put_out r st (q - c.supervisor) (page s (2048 * f))

    frame_long : length (page s (2048 * f)) ≡ 2048
    frame_long = laws.pages.page_long s (2048 * f) (frame_fits c fit s ents.long f fp.1)

    settled_other : (p y : ℕ) → key_of c.partitions p ≡ Some y → (p ≡ q → ⊥) → backing r c (put_half s (entry_at q) off15) settled_store p ≡ backing r c s st p
    settled_other p y e np =
        ap (λ n. cond (eqb (n % 2) 1) zeros (r.slot settled_store (p - c.supervisor))) (e_other c fit s ents.long q off15 q_listed p np)
        ∙ ap (λ x. cond (eqb (bit15 s p) 1) zeros x) (out_other r law c fit st good slots q key_of_lem.0 key_of_lem.1 (page s (2048 * f)) frame_long p y e np)

    settled_here : backing r c (put_half s (entry_at q) off15) settled_store q ≡ page bytes (2048 * q)
    settled_here =
        ap (λ n. cond (eqb (n % 2) 1) zeros (r.slot settled_store (q - c.supervisor))) (e_same c fit s ents.long q off15 q_listed off_small)
        ∙ ap (λ n. cond (eqb n 1) zeros (r.slot settled_store (q - c.supervisor))) (let v : off15 % 2 ≡ 0 = omega arith in v)
        ∙ out_same r law c fit st good slots q key_of_lem.0 key_of_lem.1 (page s (2048 * f)) frame_long ∙ k.inside f fp ne

    pub settled_content : Content r c rs (set ks f (change_off (get_or ks f 0))) settled_store (put_half s (entry_at q) off15) bytes
    settled_content = record {
      long = k.long;
      inside = λ g gp gn. e_frame c fit s ents.long q off15 q_listed g gp ∙ k.inside g gp gn;
      clean = λ g gp gn off. elim (cases_eq g f) [
        | inl z ↦ subst (λ x. backing r c (put_half s (entry_at q) off15) settled_store (page_in rs x) ≡ page bytes (2048 * page_in rs x)) (sym z) settled_here
        | inr z ↦ let n = tab.named g gp gn in
            settled_other (page_in rs g) n.0 n.1 (other_page g gp gn z) ∙ k.clean g gp gn (ap changed (sym (get_or-set_other ks f g _ 0 z)) ∙ off)
      ];
      outside = λ p y e absent. settled_other p y e (λ z. absent f fp (sym z)) ∙ k.outside p y e absent;
    }
