-- Every definition opened at once, so that what cites `computing` computes on numbers and lists by `refl`.
-- Assumes nothing.
use Rattle.x696.specs.Outcome.{next, must, choose}
use Rattle.x696.specs.Digits.{digits, from_digits}
use Rattle.x696.specs.Fewest.{fewest_in, fewest, unsigned_octets, is_fewest, magnitude, fewest_signed, signed_octets}
use Rattle.x696.specs.Fewest.{magnitude_in, word_in, is_fewest_signed, signed_word}
use Rattle.x696.specs.Length.{octet, run, length_octets, read_length, read_run}
use Rattle.x696.specs.Variable.{variable_unsigned, read_unsigned, variable_signed, read_signed}
use Rattle.x696.specs.Tag.{group_octets, tag_octets, read_groups, read_tag}
use Rattle.x696.specs.Bits.{low_bits_clear, preamble, read_preamble}
use Rattle.x696.specs.Value.{value_count, size, nodes, contents, same_octets, same}
use Rattle.x696.specs.Integer.{has_lower, has_upper, rank, is_unsigned, allowed, unsigned_width, within, signed_width}
use Rattle.x696.specs.Integer.{integer_form, form_octets, read_form}
use Rattle.x696.specs.Enumerated.{listed, enumerated_octets, read_enumerated}
use Rattle.x696.specs.Real.{real_octets, real_allowed}
use Rattle.x696.specs.String.{fixed_size, size_allowed, any_octets, visible, text_octets, read_text, bit_string_octets}
use Rattle.x696.specs.String.{read_fixed_bits, bits_in, read_bit_string}
use Rattle.x696.specs.Leaf.{real_kind, leaf_kind, encode_leaf, read_leaf}
use Rattle.x696.specs.Types.{kind_of, item_count, presence_count, mark_count, missing, alternative, tag_at, nesting}
use Rattle.x696.specs.Encode.{bit, presence_bits, presence, carried_octets, each, encode, own_octets}
use Rattle.x696.specs.Read.{offset, times, counted, component_by, read_inside, read, read_component}
use Rattle.x696.specs.Walk.{node_in, number_if, node_at, contents_at, walk_leaf, is_absent, walk_absent, component_walk}
use Rattle.x696.specs.Walk.{walk, walk_component}
use Rattle.x696.specs.Table.{row_word, item_word, rest_zero, numbers_from, items_from, type_by, type_among, type_of}
use Rattle.x696.specs.TableCheck.{given, every, ascending, greatest, default_sound, no_bounds, no_range, range_inside}
use Rattle.x696.specs.TableCheck.{integer_sound, enumerated_sound, string_sound, component_sound, sequence_sound}
use Rattle.x696.specs.TableCheck.{sequence_of_sound, alternative_sound, tag_before, choice_sound}
use Rattle.x696.specs.TableFault.{row_sound, row_nesting, rows_fault, sizes_sound, table_fault}
use Rattle.x696.specs.Path.{component_at, element_at, alternative_at, child_at, through, onward, find_from, find}
use Rattle.x696.specs.Path.{replace_at, replace_child, value_at, child_value, replace, components_before}
use Rattle.x696.specs.Path.{elements_before, child_before, octets_before}
use Rattle.x696.specs.Setting.{leaf_setting, type_setting, setting_of, shown_string, shown_if}
use Rattle.x696.specs.Reply.{then, answer, unless, in_part}
use Rattle.x696.specs.Operations.{usable, asked, read_message, walk_list, result_fits, room_for, over, check_reply}
use Rattle.x696.specs.Operations.{check, value_in, validate, decodable, decode, octets_for, measure, written}
use Rattle.x696.specs.Operations.{encode_list}
use Rattle.x696.specs.Editing.{place_of, place_in, edited, edited_octets, edit, read_setting, shown_at, show_text}
use Rattle.x696.specs.Editing.{shown_octets}

unfoldable pub computing : Unit {0}
unfolding next must choose digits from_digits fewest_in fewest unsigned_octets is_fewest magnitude fewest_signed
    signed_octets magnitude_in word_in is_fewest_signed signed_word octet run length_octets read_length read_run
    variable_unsigned read_unsigned variable_signed read_signed group_octets tag_octets read_groups read_tag
    low_bits_clear preamble read_preamble value_count size nodes contents same_octets same has_lower has_upper rank
    is_unsigned allowed unsigned_width within signed_width integer_form form_octets read_form listed
    enumerated_octets read_enumerated real_octets real_allowed fixed_size size_allowed any_octets visible text_octets
    read_text bit_string_octets read_fixed_bits bits_in read_bit_string real_kind leaf_kind encode_leaf read_leaf kind_of
    item_count presence_count mark_count missing alternative tag_at nesting bit presence_bits presence
    carried_octets each encode own_octets offset times counted component_by read_inside read read_component node_in
    number_if node_at contents_at walk_leaf is_absent walk_absent component_walk walk walk_component row_word item_word rest_zero
    numbers_from items_from type_by type_among type_of given every ascending greatest default_sound no_bounds no_range
    range_inside integer_sound enumerated_sound string_sound component_sound sequence_sound sequence_of_sound
    alternative_sound tag_before choice_sound row_sound row_nesting rows_fault sizes_sound table_fault component_at
    element_at alternative_at child_at through onward find_from find replace_at replace_child value_at child_value
    replace components_before elements_before child_before octets_before leaf_setting type_setting setting_of
    shown_string shown_if then answer unless in_part usable asked read_message walk_list result_fits room_for over
    check_reply check value_in validate decodable decode octets_for measure written encode_list place_of place_in
    edited edited_octets edit read_setting shown_at show_text shown_octets
computing = tt
