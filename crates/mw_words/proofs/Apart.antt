-- Where clap's walk may end at a request for help or the version, it may end at nothing else.
use Rattle.std.proofs.Common.{◌≡◌, ◌&&◌, inl, inr, ℕ, zero, suc, Bool, true, false, not, refl, sym, ap, subst, true≢false, List, [], ◌∷◌, Option, Some, None}
use Rattle.std.specs.Prelude.{if◌then◌else◌, find, is_some, drop, length, encode_utf8}
use Rattle.std.specs.List.{list_all}
use Rattle.std.specs.Option.{option_map_or}
use Rattle.clap.specs.Walk.{arg_by_id, arg_by_index, arg_by_long, arg_by_short, Held, Names, Row, Rule, Step, value, Text, Walk, finished, reacted, walk, subcommand_met, word_met, walked, nothing_held, with_default}
use Rattle.clap.specs.Simple.{App, Shape, argument_words, built}
use Rattle.clap.specs.Kinds.{IsAmong, Kinds, or_else, range_kinds, request_kinds, values_kinds}
use Rattle.clap.specs.Faults.{action_fault, built_fault, bundle_step_fault, check_fault, count_fault, default_fault, defaults_fault, fault_of, flag_word_fault, flags_fault, level_fault, long_fault, option_fault, other_fault, positional_fault, react_fault, set_fault, settle_fault, short_fault, step_fault, stray_fault, turn_fault, use_fault, walk_fault, word_fault}
use Rattle.clap.specs.declared.builder.action.ArgAction.{ArgAction}
use Rattle.clap.specs.declared.builder.action.ArgAction.TheVariants as action
use Rattle.clap.specs.declared.builder.value_parser.ValueParser.{ValueParser}
use Rattle.clap.specs.declared.error.kind.ErrorKind.{ErrorKind}
use Rattle.clap.specs.declared.error.kind.ErrorKind.TheVariants.{DisplayHelp, DisplayVersion, InvalidSubcommand, UnknownArgument}
use Rattle.clap.proofs.WalkLemmas.{both as and_true}
use Rattle.mw_words.specs.CommandLine.{mw_app}

abbrev pub is_request : ErrorKind → Bool
is_request DisplayHelp = true
is_request DisplayVersion = true
is_request _ = false

-- a request among the kinds is the only one
pub record IsApart (kinds : Kinds) : Type 0 where
  pub alone : (k : ErrorKind) → IsAmong k kinds → is_request k ≡ true → kinds ≡ k ∷ []

none : IsApart []
none = record { alone = λ k among asks. absurd among }

one : (k : ErrorKind) → IsApart (k ∷ [])
one k = record { alone = λ j among asks. one_of k j among }
  where
    one_of : (k j : ErrorKind) → IsAmong j (k ∷ []) → (k ∷ []) ≡ (j ∷ [])
    one_of k j (inl e) = ap (λ (x : ErrorKind). x ∷ []) (sym e)
    one_of k j (inr among) = absurd among

either : (b : Bool) (x y : Kinds) → IsApart x → IsApart y → IsApart (if b then x else y)
either true x y p q = p
either false x y p q = q

both : (x y : Kinds) → IsApart x → IsApart y → IsApart (or_else x y)
both [] y p q = q
both (k ∷ ks) y p q = p

of_option : {A : Type 0} (f : A → Kinds) (o : Option A) (d : Kinds) → ((a : A) → IsApart (f a)) → IsApart d → IsApart (option_map_or f o d)
of_option f None d each p = p
of_option f (Some a) d each p = each a

-- ---- one use of an argument

values_apart : (i : Bool) (p : ValueParser) (vs : List Text) → IsApart (values_kinds i p vs)
values_apart i p [] = none
values_apart i p (v ∷ vs) = both _ _ (either _ _ _ none (one _)) (values_apart i p vs)

range_apart : (least most n : ℕ) → IsApart (range_kinds least most n)
range_apart least most n = search (either, one, none)

request_apart : (x : ArgAction) → IsApart (request_kinds x)
request_apart action.Help = one _
request_apart action.HelpShort = one _
request_apart action.HelpLong = one _
request_apart action.Version = one _
request_apart _ = none

count_apart : (a : Rule) (vs : List Text) (rows : List Row) → IsApart (count_fault a vs rows)
count_apart a [] rows = either _ _ _ none (one _)
count_apart a (v ∷ vs) rows = values_apart _ _ (v ∷ vs)

set_apart : (again : Bool) (a : Rule) (values : List Text) (rows : List Row) → IsApart (set_fault again a values rows)
set_apart again a values rows = both _ _ (either _ _ _ (one _) none) (values_apart _ _ values)

action_apart : (x : ArgAction) (again : Bool) (a : Rule) (values : List Text) (rows : List Row) → IsApart (action_fault x again a values rows)
action_apart action.Set again a values rows = set_apart again a values rows
action_apart action.SetTrue again a values rows = set_apart again a values rows
action_apart action.SetFalse again a values rows = set_apart again a values rows
action_apart action.Append again a values rows = values_apart _ _ values
action_apart action.Count again a values rows = count_apart a values rows
action_apart action.Help again a values rows = one _
action_apart action.HelpShort again a values rows = one _
action_apart action.HelpLong again a values rows = one _
action_apart action.Version again a values rows = one _

use_apart : (again : Bool) (a : Rule) (values : List Text) (rows : List Row) → IsApart (use_fault again a values rows)
use_apart again a values rows = search (both, range_apart, action_apart)

-- ---- the walk

settle_apart : (c : List Rule) (again : Bool) (h : Held) → IsApart (settle_fault c again h)
settle_apart c again h =
    of_option _ h.pending _ (λ (p : Text × List Text). of_option _ (arg_by_id c p.0) _ (λ a. use_apart again a p.1 h.rows) none) none

react_apart : (c : List Rule) (again : Bool) (a : Rule) (values : List Text) (h : Held) → IsApart (react_fault c again a values h)
react_apart c again a values h = both _ _ (settle_apart c again h) (use_apart again a values _)

option_apart : (c : List Rule) (again : Bool) (a : Rule) (v : Option Text) (h : Held) → IsApart (option_fault c again a v h)
option_apart c again a (Some v) h = react_apart c again a (v ∷ []) h
option_apart c again a None h = settle_apart c again h

long_apart : (c : List Rule) (again : Bool) (a : Option Rule) (v : Option Text) (h : Held) → IsApart (long_fault c again a v h)
long_apart c again None v h = one _
long_apart c again (Some a) v h = either _ _ _ (option_apart c again a v h) (either _ _ _ (one _) (react_apart c again a [] h))

short_apart : (c : List Rule) (again : Bool) (a : Option Rule) (rest : Text) (h : Held) (next : Held → Kinds) → ((h : Held) → IsApart (next h))
    → IsApart (short_fault c again a rest h next)
short_apart c again None rest h next each = one _
short_apart c again (Some a) rest h next each =
    either _ _ _ (option_apart c again a _ h) (both _ _ (react_apart c again a [] h) (each (reacted c a [] h)))

bundle_step_apart : (c : List Rule) (again : Bool) (first : Option ℕ) (flags : Text) (skip : ℕ) (h : Held) (next : Text → ℕ → Held → Kinds)
    → ((t : Text) (n : ℕ) (h : Held) → IsApart (next t n h)) → IsApart (bundle_step_fault c again first flags skip h next)
bundle_step_apart c again None flags skip h next each = none
bundle_step_apart c again (Some x) flags zero h next each =
    let rest = drop (length (encode_utf8 x)) flags in short_apart c again (arg_by_short c x) rest h _ (each rest 0)
bundle_step_apart c again (Some x) flags (suc skip) h next each = each _ skip h

flags_apart : (c : List Rule) (again : Bool) (k : ℕ) (flags : Text) (skip : ℕ) (h : Held) → IsApart (flags_fault c again k flags skip h)
unfolding flags_fault
flags_apart c again zero flags skip h = none
flags_apart c again (suc k) flags skip h = bundle_step_apart c again _ flags skip h _ (λ t n h. flags_apart c again k t n h)

flag_word_apart : (c : List Rule) (again : Bool) (p : Option (Text × Option Text)) (word : Text) (h : Held) → IsApart (flag_word_fault c again p word h)
flag_word_apart c again (Some p) word h = long_apart c again (arg_by_long c p.0) p.1 h
flag_word_apart c again None word h = of_option _ _ _ (λ flags. flags_apart c again _ flags _ _) none

-- `help` is no subcommand where it is disabled
help_apart : (is_help disabled : Bool) → disabled ≡ true → IsApart (if is_help && not disabled then DisplayHelp ∷ InvalidSubcommand ∷ [] else [])
help_apart true true e = none
help_apart true false e = absurd (true≢false (sym e))
help_apart false disabled e = none

stray_apart : (s : Shape) → IsApart (stray_fault s)
stray_apart s = either _ _ _ (one _) (record { alone = λ k among asks. two k among asks })
  where
    two : (k : ErrorKind) → IsAmong k (UnknownArgument ∷ InvalidSubcommand ∷ []) → is_request k ≡ true → (UnknownArgument ∷ InvalidSubcommand ∷ []) ≡ (k ∷ [])
    two k (inl e) asks = absurd (true≢false (sym (subst (λ x. is_request x ≡ true) e asks)))
    two k (inr (inl e)) asks = absurd (true≢false (sym (subst (λ x. is_request x ≡ true) e asks)))
    two k (inr (inr among)) asks = absurd among

other_apart : (s : Shape) → s.disable_help_subcommand ≡ true → (name : Option Text) (word : Text) (h : Held) → IsApart (other_fault s name word h)
other_apart s e (Some name) word h = help_apart _ s.disable_help_subcommand e
other_apart s e None word h = either _ _ _ none (flag_word_apart s.rules s.args_override_self _ word h)

positional_apart : (c : List Rule) (again : Bool) (a : Rule) (h : Held) → IsApart (positional_fault c again a h)
positional_apart c again a h = search (either, none, settle_apart)

step_apart : (s : Shape) (position : ℕ) (h : Held) (step : Step) → IsApart (step_fault s position h step)
step_apart s position h value =
    of_option _ (arg_by_index s.rules position) _ (λ a. positional_apart s.rules s.args_override_self a h) (stray_apart s)
step_apart s position h _ = none

turn_apart : (s : Shape) → s.disable_help_subcommand ≡ true → (names : Names) (w : Walk) (word : Text) → IsApart (turn_fault s names w word)
turn_apart s e names w word =
    let met = word_met s.rules names w.is_trailing w.waiting w.position word w.held in
    let own : IsApart (word_fault s names w.is_trailing w.waiting word w.held) =
    either w.is_trailing _ _ none (other_apart s e (subcommand_met names w.waiting word) word w.held) in
    either (is_some w.stopped) _ _ none (both _ _ own (step_apart s w.position met.0 met.1))

walk_apart : (s : Shape) → s.disable_help_subcommand ≡ true → (names : Names) (w : Walk) (words : List Text) → IsApart (walk_fault s names w words)
unfolding walk_fault
walk_apart s e names w [] = none
walk_apart s e names w (word ∷ rest) = both _ _ (turn_apart s e names w word) (walk_apart s e names (walked s.rules names w word) rest)

-- ---- after the walk

default_apart : (rows : List Row) (a : Rule) → IsApart (default_fault rows a)
default_apart rows a = search (either, both, none, request_apart, values_apart)

defaults_apart : (rows : List Row) (rules : List Rule) → IsApart (defaults_fault rows rules)
unfolding defaults_fault
defaults_apart rows [] = none
defaults_apart rows (a ∷ rest) = both _ _ (default_apart rows a) (defaults_apart (with_default rows a) rest)

check_apart : (s : Shape) (rows : List Row) (has : Bool) → IsApart (check_fault s rows has)
check_apart s rows has = search (either, one, none)

level_apart : (s : Shape) → s.disable_help_subcommand ≡ true → (names : Names) (h : Held) (words : List Text) (has : Bool) (below : Kinds) → IsApart below
    → IsApart (level_fault s names h words has below)
level_apart s e names h words has below p =
    let end = (walk s.rules names h words).held in
    both _ _ (walk_apart s e names _ words)
    (both _ _ p (both _ _ (settle_apart s.rules s.args_override_self end)
    (both _ _ (defaults_apart _ s.rules) (check_apart s (finished s.rules end) has))))

-- `help` is disabled in each
abbrev has_no_help : List Shape → Bool
has_no_help = list_all (λ s. s.disable_help_subcommand)

found_apart : (p : Shape → Bool) (f : Shape → Kinds) (subs : List Shape) → has_no_help subs ≡ true → ((s : Shape) → s.disable_help_subcommand ≡ true → IsApart (f s))
    → IsApart (option_map_or f (find p subs) [])
found_apart p f [] e each = none
found_apart p f (s ∷ rest) e each = go (p s) (found_apart p f rest (and_true _ _ e).1 each)
  where
    go : (b : Bool) → IsApart (option_map_or f (find p rest) []) → IsApart (option_map_or f (if b then Some s else find p rest) [])
    go true later = each s (and_true _ _ e).0
    go false later = later

pub built_apart : (a : App) → a.top.disable_help_subcommand ≡ true → has_no_help a.subs ≡ true → (h : Held) (words : List Text) → IsApart (built_fault a h words)
built_apart a e subs h words =
    level_apart a.top e _ h words _ _ (of_option _ _ _ (λ p. found_apart _ _ a.subs subs (λ s e. level_apart s e [] nothing_held p.1 false [] none)) none)

pub request_alone : (words : List Text) (k : ErrorKind) → is_request k ≡ true → IsAmong k (fault_of mw_app words) → fault_of mw_app words ≡ k ∷ []
request_alone words k asks among = (built_apart (built mw_app) refl refl nothing_held (argument_words mw_app words)).alone k among asks
