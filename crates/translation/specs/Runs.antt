-- Runs of calls on one main storage, and the same calls answered by the walk alone.
use Rattle.std.specs.Prelude.{ℕ, List, [], ◌∷◌}
use Rattle.tables.specs.declared.Controls.{Controls}
use Rattle.tables.specs.Walk.{walk}
use Rattle.translation.specs.declared.runs.Ask.{Ask}
use Rattle.translation.specs.declared.runs.Ask.TheVariants.{Translate, Forget, Controls as Words}
use Rattle.translation.specs.declared.runs.Start.{Start}
use Rattle.translation.specs.declared.runs.Start.TheVariants.{Load, Purge}
use Rattle.translation.specs.declared.runs.Told.{Told}
use Rattle.translation.specs.declared.runs.Told.TheVariants.{Real, Forgotten, Held}
use Rattle.translation.specs.Translator.{Rules}

-- What a translator tells at one call, and what it is then.
abbrev pub told_by : {M : Type 0} → Rules M → List ℕ → M → Ask → Told
told_by r s m (Translate a) = Real (r.translate m s a).answer
told_by r s m (Forget page) = Forgotten
told_by r s m Words = Held (r.controls m)

abbrev pub left_by : {M : Type 0} → Rules M → List ℕ → M → Ask → M
left_by r s m (Translate a) = (r.translate m s a).left
left_by r s m (Forget page) = r.forget m page
left_by r s m Words = m

-- The answers to a list of calls.
abbrev pub answers : {M : Type 0} → Rules M → List ℕ → M → List Ask → List Told
answers r s m [] = []
answers r s m (ask ∷ asks) = told_by r s m ask ∷ answers r s (left_by r s m ask) asks

-- The translator after a list of calls.
abbrev pub last_of : {M : Type 0} → Rules M → List ℕ → M → List Ask → M
last_of r s m [] = m
last_of r s m (ask ∷ asks) = last_of r s (left_by r s m ask) asks

-- What the walk alone tells, with fixed control words.
abbrev pub walk_told : List ℕ → Controls → Ask → Told
walk_told s w (Translate a) = Real (walk s w a)
walk_told s w (Forget page) = Forgotten
walk_told s w Words = Held w

abbrev pub walk_answers : List ℕ → Controls → List Ask → List Told
walk_answers s w [] = []
walk_answers s w (ask ∷ asks) = walk_told s w ask ∷ walk_answers s w asks

-- How a run starts: what the translator is, and its control words.
abbrev pub started : {M : Type 0} → Rules M → List ℕ → M → Start → M
started r s m (Load w) = r.load m s w
started r s m Purge = r.purge m s

abbrev pub words_of : Controls → Start → Controls
words_of old (Load w) = w
words_of old Purge = old
