pub mod Words
pub mod LineMoves
pub mod Moves
pub mod Laws
pub mod Sights
pub use Rattle.wc_laws_grammar.specs.Words.{Applies, Calls, Jumps, Loads, Negates, Operates, OperandOperator, Operation, Returns, Stores, found, is_transfer, literal_of, operation_of, operation_word, operations, section_words, step_of, truth_value, truths, unit_kinds}
pub use Rattle.wc_laws_grammar.specs.LineMoves.{AtAssign, AtEnd, AtFirst, AtNext, AtValue, Bracketed, BracketedWith, Called, Ended, Formal, InList, Instanced, Instructs, Jumped, LabelAlone, Labelled, LineShape, LineState, OpenCall, Listing, Named, OfArgument, OfOpening, OfStep, Opens, OperandOf, Operated, Pointed, Start, StartedLine, Stepped, Worded, after_name, after_operand, after_operator, at_bracketed, at_field, at_labelled, at_list, at_operand, at_operated, at_operator, at_start, at_start_in, formal_of, line_move, name_or_literal, operator_or_label, simple_operator, with_actual, with_argument}
pub use Rattle.wc_laws_grammar.specs.Moves.{AfterAssign, AfterColon, AfterComma, AfterNames, AfterType, AfterValue, AtLine, Closed, Declaring, InDeclaration, OnLine, Outside, Raised, State, Undeclared, Unnamed, after_closing, after_line, after_unit, at_end, at_first, at_first_name, at_value, begins_transfer, body_move, body_start, closing_move, colon_next, declaration_move, fault_at, fault_at_closing, fault_at_line, fault_at_operator, fault_at_unit, fault_if, fault_on_line, first_fault, has_content, has_name, has_program, inside_move, is_colon, is_full, is_identifier, is_program, lines_and, move, named_unit, on_line, open_in, open_on, reading, section_of_word, section_or_line, start_move, started_line, unit_with, walk, with_declaration, word_move}
pub use Rattle.wc_laws_grammar.specs.Laws.{FaultSpellsNothing, OneText, TextOrFault}
