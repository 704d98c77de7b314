-- The text of a fault.
use Rattle.std.specs.Prelude.{ℕ, List, ◌++◌, codes, decimal}
use Rattle.line_book_store.specs.declared.fault.BookFault.{BookFault}
use Rattle.line_book_store.specs.declared.fault.BookFault.TheVariants.{OthersFirst, OtherColumns, WrongEntry, Unavailable}
use Rattle.line_schema.specs.Opening.{fault_text}
use Rattle.line_file.specs.declared.fault.ListFault.{ListFault}
use Rattle.line_file.specs.declared.fault.ListFault.TheVariants.{History, Book}

-- The fault of the history; or, after `book`, that of the book, with its number.
abbrev pub list_fault_text : ListFault → List ℕ
list_fault_text (History fault) = fault_text fault
list_fault_text (Book OthersFirst) = codes "book OthersFirst"
list_fault_text (Book OtherColumns) = codes "book OtherColumns"
list_fault_text (Book (WrongEntry number)) = codes "book WrongEntry " ++ decimal number
list_fault_text (Book Unavailable) = codes "book Unavailable"
