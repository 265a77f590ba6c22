-- What a word is read as, and how the values of WIRE's words are spelled.
use Rattle.std.specs.Prelude.{◌≡◌, ◌≢◌, ℕ, List, codes, MatchResult, Result}
use Rattle.script.specs.declared.wiring.Kind.{Kind}
use Rattle.script.specs.declared.wiring.Kind.TheVariants.{Plain, DataSet}
use Rattle.script.specs.declared.wiring.Policy.{Policy}
use Rattle.script.specs.declared.wiring.Policy.TheVariants.{Queues, Lru}
use Rattle.script.specs.declared.wiring.Translator.{Translator}
use Rattle.script.specs.declared.wiring.Translator.TheVariants.{Walker, Tlb, Tlb2}
use Rattle.script.specs.declared.verb.Verb.TheVariants.{Wire}
use Rattle.script.specs.declared.wrong.Wrong.{Wrong}
use Rattle.script.specs.declared.wrong.Wrong.TheVariants.{UnknownWord}

-- Reading a word gives the value that it spells; where it spells none, the error is one that the word is refused with.
abbrev pub Reads : {A E : Type 0} → (A → List ℕ) → (List ℕ → E → Type 0) → List ℕ → Result A E → Type 0
Reads {A} spelling Refuses word r = MatchResult r (λ x. spelling x ≡ word) (λ e. Refuses word e × ((x : A) → spelling x ≢ word))

-- A value of a word of WIRE that spells none is an unknown word.
abbrev pub IsUnknown : List ℕ → Wrong → Type 0
IsUnknown word e = e ≡ UnknownWord Wire

-- The values of policy=.
abbrev pub policy_word : Policy → List ℕ
policy_word Queues = codes "queues"
policy_word Lru = codes "lru"

-- The values of translator=.
abbrev pub translator_word : Translator → List ℕ
translator_word Walker = codes "walker"
translator_word Tlb = codes "tlb"
translator_word Tlb2 = codes "tlb2"

-- The values of store=.
abbrev pub kind_word : Kind → List ℕ
kind_word Plain = codes "plain"
kind_word DataSet = codes "dataset"
