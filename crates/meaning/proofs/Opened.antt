-- A name that opens every definition: a proof by computation says `unfolding opened`. Written by tools/opened.py.
-- Assumes nothing.
use Prim.Native.Nat.{ℕ}
use Rattle.meaning.specs.Keywords.{bytes, marks, keywords, kind_from, mark_of, kind_of, spelt}
use Rattle.meaning.specs.Words.{is_blank, is_letter, in_name, scan_step, scan_to, mark_here, word_here, word_from, word_at, words_from, words_of}
use Rattle.meaning.specs.Grammar.{rules, rule, nullable, is_none, or, left_by, left_in, left}
use Rattle.meaning.specs.Statements.{behind, compared, step_e, step_s, step, of_e, idle, says, item_of, ends, form_at, branch_at, gather, statements_of, part, names_at, of_form}
use Rattle.meaning.specs.Sizes.{limits, name_count, form_count, count_of, own_limit, no_counts, counted, exceeds, place_of, read_from, read_text}
use Rattle.meaning.specs.Names.{declares_at, declares, space, decl_of, object_r, declared_by, declared, first_text, is_perms_of, is_common, first_of, common_perms, inherited, repeats, perm_decl, perm_decls, twice_word, second_perms, twice_in, declared_twice, uses_at, uses, serves, is_served, unknown, undeclared}
use Rattle.meaning.specs.Permissions.{stated_perms, perms_of, item_name, class_of, classes_in, class_part, perm_part, has, not_of_all, bad_permission}
use Rattle.meaning.specs.Sets.{name_of, of_kind, aliases_by, type_named, put_into, attribute_of, names_of, meant_by, types_meant, means, listed, is_in, type_words, name_words, has_self, named_in}
use Rattle.meaning.specs.Coverage.{in_source, in_target, covers_pair, covers_class, covers_perm, covers, covers_type}
use Rattle.meaning.specs.Expressions.{binds, join, worth, popped, postfix, join_top, negate_top, top_of, value_from, value}
use Rattle.meaning.specs.Policy.{meet}
use Rattle.meaning.specs.Rules.{number_of, class_number, type_number, alias_entry, set_of, types_of, roles_of, perms_for, perm_sets, class_numbers, rule_of, av_statements, rules_of, row_of, rows_of, type_rows_of, role_allow_of, transition_classes, role_transition_of, role_of, object_role, roles_in, user_of, switch_of, bounds_by, bounds_of, parent_in, type_entries, types_in, two_sided, mark_token, bool_token, if_of, compared_set, behind_test, test_of, read_tests, constraint_words, constrain_of, policy_of}
use Rattle.meaning.specs.Contradictions.{types_clash, roles_clash, first_against, with_any, comes_to, other_parent, bound_clash, contradiction}
use Rattle.meaning.specs.Neverallow.{rule_pair, rule_perms, targets_of, pairs_of, shared_of, permissions_of, clash_at, clashes_of, of_kind as of_kind-Neverallow, clashes, head_of, first_over, never_broken}
use Rattle.meaning.specs.Contexts.{type_at, role_at, user_at, class_at, user_number, role_number, aliased, type_number as type_number-Contexts, is_object, role_has, user_has, valid, judged, onto, parts, named, context_of, printed, asked_class, asked_target, asked_source, asked}
use Rattle.meaning.specs.Access.{is_on, if_holds, in_force, row_covers, covered, whose, passes, is_named_by, constrains_hold, is_process, is_transition, role_allowed, roles_fit, own_allows, with_type, allows, number, mask, refused_answer, answered, access}
use Rattle.meaning.specs.Computed.{rule_for, user_for, ends_in, keeps_source, type_by, role_by, role_for, computed, refused_text, fitted, shown, compute, output_of, refused_owner, user_size, owner_in, owner}
use Rattle.meaning.specs.Questions.{set, with_bools, switch, after_calls, permission_in, permission_number}
use Rattle.meaning.specs.Load.{refused, unless, unless_broken, after8, after5, after4, after6, after3, after_reading, load_words, load, clash_names, load_into}

unfoldable pub opened : ℕ
unfolding bytes marks keywords kind_from mark_of kind_of spelt is_blank is_letter in_name scan_step scan_to mark_here word_here word_from word_at words_from words_of rules rule nullable is_none or left_by left_in left behind compared step_e step_s step of_e idle says item_of ends form_at branch_at gather statements_of part names_at of_form limits name_count form_count count_of own_limit no_counts counted exceeds place_of read_from read_text declares_at declares space decl_of object_r declared_by declared first_text is_perms_of is_common first_of common_perms inherited repeats perm_decl perm_decls twice_word second_perms twice_in declared_twice uses_at uses serves is_served unknown undeclared stated_perms perms_of item_name class_of classes_in class_part perm_part has not_of_all bad_permission name_of of_kind aliases_by type_named put_into attribute_of names_of meant_by types_meant means listed is_in type_words name_words has_self named_in in_source in_target covers_pair covers_class covers_perm covers covers_type binds join worth popped postfix join_top negate_top top_of value_from value meet number_of class_number type_number alias_entry set_of types_of roles_of perms_for perm_sets class_numbers rule_of av_statements rules_of row_of rows_of type_rows_of role_allow_of transition_classes role_transition_of role_of object_role roles_in user_of switch_of bounds_by bounds_of parent_in type_entries types_in two_sided mark_token bool_token if_of compared_set behind_test test_of read_tests constraint_words constrain_of policy_of types_clash roles_clash first_against with_any comes_to other_parent bound_clash contradiction rule_pair rule_perms targets_of pairs_of shared_of permissions_of clash_at clashes_of of_kind-Neverallow clashes head_of first_over never_broken type_at role_at user_at class_at user_number role_number aliased type_number-Contexts is_object role_has user_has valid judged onto parts named context_of printed asked_class asked_target asked_source asked is_on if_holds in_force row_covers covered whose passes is_named_by constrains_hold is_process is_transition role_allowed roles_fit own_allows with_type allows number mask refused_answer answered access rule_for user_for ends_in keeps_source type_by role_by role_for computed refused_text fitted shown compute output_of refused_owner user_size owner_in owner set with_bools switch after_calls permission_in permission_number refused unless unless_broken after8 after5 after4 after6 after3 after_reading load_words load clash_names load_into
opened = 0
