-- What Load, Store, Fix and Free have done, step by step, is their rule: one hypothesis for each step.
use Rattle.std.proofs.Common.{◌≡◌, ℕ, ◌/◌, get_or, Some, Ok, unwrap_or, sym, ap, ◌∙◌}
use Rattle.model.specs.declared.shape.Request.{Request}
use Rattle.model.proofs.Decoded.{Reached, fix_ok, load_ok, store_ok}
use Rattle.model.specs.Refusals.{decode_fix, decode_free, decode_load, decode_store}
use Rattle.model.specs.Steps.{asked, brought, brought_frame, fix, fixed_once, fixing, free, freed_in, freeing, load, loaded_in, loading, store, stored_in, storing}
use Rattle.model.specs.World.{Parts, World}
use Rattle.paging.specs.Seen.{access_for}
use Rattle.state.specs.Bare.{bare}

-- What the tests look at.
abbrev pub tested : {T P S : Type 0} → World T P S → World (Unit {0}) (Unit {0}) (Unit {0})
tested w = bare (record { config = w.config; records = w.records }) w.storage

-- The access key of the page that a request is for.
access : {T P S : Type 0} (w : World T P S) (p : ℕ) (q : Request) → Reached w p q → access_for w.config q.page ≡ q.key
access w p q h = ap (λ (x : Request). access_for w.config x.page) h.is ∙ ap (λ o. unwrap_or o 0) h.part

module _ {T P S : Type 0} (r : Parts T P S) (w : World T P S) where
  -- the page brought in, with the access key of its partition
  module _ (q : Request) (f : ℕ) (w₁ : World T P S) (frame : f ≡ brought_frame r w q.frame)
      (come : w₁ ≡ brought r q.page (access_for w.config q.page) w q.frame) where
    come_in : (p : ℕ) → Reached w p q → w₁ ≡ brought r q.page q.key w q.frame
    come_in p h = come ∙ ap (λ k. brought r q.page k w q.frame) (access w p q h)

    pub load_done : (a key byte : ℕ) (w₂ : World T P S) → Ok q ≡ decode_load (tested w) a key
        → byte ≡ get_or w₁.storage (asked r a f w₁) 0 → w₂ ≡ loaded_in r a f w₁ → (Ok byte, w₂) ≡ load r a key w
    unfolding load decode_load
    load_done a key byte w₂ e b l =
        let c = come_in (a / 2048) (load_ok w a key q (sym e)).0 in
        rw (b, l, frame, c) (ap (loading r a w) e)

    pub store_done : (a key byte : ℕ) (w₂ : World T P S) → Ok q ≡ decode_store (tested w) a key
        → w₂ ≡ stored_in r a byte f w₁ → (Ok tt, w₂) ≡ store r a key byte w
    unfolding store decode_store
    store_done a key byte w₂ e l =
        let c = come_in (a / 2048) (store_ok w a key q (sym e)).0 in
        rw (l, frame, c) (ap (storing r a byte w) e)

    pub fix_done : (p : ℕ) (w₂ : World T P S) → Ok q ≡ decode_fix (tested w) p → w₂ ≡ fixed_once r f w₁ → (Ok tt, w₂) ≡ fix r p w
    unfolding fix decode_fix
    fix_done p w₂ e l =
        let c = come_in p (fix_ok w p q (sym e)).0 in
        rw (l, frame, c) (ap (fixing r w) e)

  pub free_done : (p f : ℕ) (q : Request) (w₁ : World T P S) → Ok q ≡ decode_free (tested w) p → q.frame ≡ Some f
      → w₁ ≡ freed_in r f w → (Ok tt, w₁) ≡ free r p w
  unfolding free decode_free
  free_done p f q w₁ e s l =
      ap (λ x. (Ok tt, x)) (l ∙ ap (λ o. freed_in r (brought_frame r w o) w) (sym s)) ∙ ap (freeing r w) e
