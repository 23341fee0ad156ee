-- Why a text has no meaning at some point; the standard calls most of these errors (IEC 61131-3:2003, annex E). No text that
-- is verified is ever stuck.

-- no current result if one is wanted; a value of a kind that the operator does not take; a name that is not there, or that
-- may not be read or written from here; a divisor of 0; a jump whose label does not follow
pub data Reason : Type 0 where
  NoResult : Reason
  WrongKind : Reason
  NoSuchPlace : Reason
  ZeroDivisor : Reason
  NoLabelAhead : Reason
