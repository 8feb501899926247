-- The refusal numbers of 01. No other page writes one.
use Rattle.std.specs.Prelude.{ℕ}

abbrev pub accepted : ℕ
accepted = 0

-- table space under 16,384 words
abbrev pub short_table : ℕ
short_table = 1

-- text over 32,768 bytes
abbrev pub long_text : ℕ
long_text = 2

-- text not in the grammar
abbrev pub not_grammar : ℕ
not_grammar = 3

-- name not declared, or of another kind
abbrev pub not_declared : ℕ
not_declared = 4

-- permission not one of a class named with it
abbrev pub not_permission : ℕ
not_permission = 5

-- declared twice
abbrev pub declared_again : ℕ
declared_again = 6

-- a size exceeded
abbrev pub over_size : ℕ
over_size = 7

-- contradiction
abbrev pub contradicts : ℕ
contradicts = 8

-- neverallow broken
abbrev pub neverallow_broken : ℕ
neverallow_broken = 9

-- table not usable with this text
abbrev pub not_usable : ℕ
not_usable = 10

-- source, target context not valid
abbrev pub bad_source : ℕ
bad_source = 11

abbrev pub bad_target : ℕ
bad_target = 12

-- class unknown
abbrev pub no_class : ℕ
no_class = 13

-- computed context not valid
abbrev pub bad_result : ℕ
bad_result = 14

-- output buffer too short
abbrev pub short_output : ℕ
short_output = 15

-- boolean unknown
abbrev pub no_boolean : ℕ
no_boolean = 16

-- permission not of that class
abbrev pub no_permission : ℕ
no_permission = 17
